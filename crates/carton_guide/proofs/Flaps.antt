-- Flaps: there is one at most by an edge, and it is a panel.
use Rattle.std.proofs.Common.{◌≡◌, ℕ, ◌<◌, length}
use Rattle.carton_tree.proofs.Flaps.{HasPlace, hung_in, one_flap as one_hanging}
use Rattle.carton_tree.specs.Cartons.{IsCarton}
use Rattle.carton_tree.specs.Trees.{Tree}
use Rattle.carton_catalogue.specs.Fits.{IsGuided}

pub flap_in : (t : Tree) (e flap place : ℕ) → IsCarton t → IsGuided t e flap place → flap < length t.panels
flap_in t e flap place c h = hung_in t (HasPlace place) flap c h.free

-- the flap by an edge, and its place
pub one_flap : (t : Tree) (e f k g m : ℕ) → IsGuided t e f k → IsGuided t e g m → (f ≡ g) × (k ≡ m)
one_flap t e f k g m h i = one_hanging t.joints e f k g m h.hangs h.free i.hangs i.free
