-- Where cosine and sine are greatest and least over the folds from low to high, all over one d.
use Rattle.std.specs.Prelude.{◌≡◌, ◌⊎◌, ℤ, pos, neg_ℤ, ◌+ℤ◌, ◌≤ℤ◌}

-- m is the fold from low to high that lies nearest to flat: they lie above it, below it, or across it
pub record Above (low m : ℤ) : Type 0 where
  pub after : pos 0 ≤ℤ low
  pub is : m ≡ low

pub record Below (high m : ℤ) : Type 0 where
  pub before : high ≤ℤ pos 0
  pub is : m ≡ high

pub record Across (low high m : ℤ) : Type 0 where
  pub before : low ≤ℤ pos 0
  pub after : pos 0 ≤ℤ high
  pub is : m ≡ pos 0

abbrev pub IsNearest : ℤ → ℤ → ℤ → Type 0
IsNearest low high m = Above low m ⊎ Below high m ⊎ Across low high m

-- m is the fold from low to high that lies farthest from flat
pub record Upward (low high m : ℤ) : Type 0 where
  pub more : neg_ℤ low ≤ℤ high
  pub is : m ≡ high

pub record Downward (low high m : ℤ) : Type 0 where
  pub more : high ≤ℤ neg_ℤ low
  pub is : m ≡ low

abbrev pub IsFarthest : ℤ → ℤ → ℤ → Type 0
IsFarthest low high m = Upward low high m ⊎ Downward low high m

-- p is the fold from low to high that has the greatest sine: they lie past a right angle, across it, or
-- short of
-- it, where the upper end or else the lower one lies nearer to it round the circle
pub record Past (low d p : ℤ) : Type 0 where
  pub past : d ≤ℤ low
  pub is : p ≡ low

pub record Upright (low high d p : ℤ) : Type 0 where
  pub before : low ≤ℤ d
  pub after : d ≤ℤ high
  pub is : p ≡ d

pub record Rising (low high d p : ℤ) : Type 0 where
  pub short : high ≤ℤ d
  pub nearer : neg_ℤ (d +ℤ d) ≤ℤ (low +ℤ high)
  pub is : p ≡ high

pub record Falling (low high d p : ℤ) : Type 0 where
  pub nearer : (low +ℤ high) ≤ℤ neg_ℤ (d +ℤ d)
  pub is : p ≡ low

abbrev pub IsCrest : ℤ → ℤ → ℤ → ℤ → Type 0
IsCrest low high d p = Past low d p ⊎ Upright low high d p ⊎ Rising low high d p ⊎ Falling low high d p
