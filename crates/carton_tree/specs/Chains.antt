-- Chains of joints from panel to panel.
use Rattle.std.specs.Prelude.{◌≡◌, ℕ, zero, suc, ◌<◌, ◌≤◌, length}
use Rattle.carton_base.specs.declared.dieline.RawDieline.{RawDieline}
use Rattle.carton_base.specs.declared.limits.TheConstants.{LONGEST_PATH}
use Rattle.carton_tree.specs.Joints.{IsJointOf}

-- n joints, each of a number below k, lead from panel f to panel g, where Joins j f g says that joint j joins
-- two panels
abbrev pub IsChain : (ℕ → ℕ → ℕ → Type 0) → ℕ → ℕ → ℕ → ℕ → Type 0
IsChain Joins k zero f g = f ≡ g
IsChain Joins k (suc n) f g = (j h : ℕ) × (j < k) × Joins j f h × IsChain Joins k n h g

-- some chain of joints of numbers below k does
abbrev pub AreJoined : (ℕ → ℕ → ℕ → Type 0) → ℕ → ℕ → ℕ → Type 0
AreJoined Joins k f g = (n : ℕ) × IsChain Joins k n f g

-- some chain of the dieline's joints leads from panel f to panel g
abbrev pub LeadsTo : RawDieline → ℕ → ℕ → Type 0
LeadsTo d f g = AreJoined (IsJointOf d) (length d.edges) f g

-- a chain of at most 8 joints does
abbrev pub LeadsNear : RawDieline → ℕ → ℕ → Type 0
LeadsNear d f g = (n : ℕ) × (n ≤ LONGEST_PATH) × IsChain (IsJointOf d) (length d.edges) n f g
