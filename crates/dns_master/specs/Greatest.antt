-- What was said last: by the greatest earlier number at which something is said.
use Rattle.std.specs.Prelude.{◌≡◌, ℕ, ◌<◌, ◌⊎◌, Option, Some, None}

-- of the numbers below k, j is the greatest at which something is said, and this is said there
pub record Greatest {A : Type 0} (says : ℕ → Option A) (k j : ℕ) (said : A) : Type 0 where
  pub below : j < k
  pub here : says j ≡ Some said
  pub later : (i : ℕ) → j < i → i < k → says i ≡ None

-- what is said at the greatest number below k at which something is; none, where nothing is
abbrev pub LastSaid : {A : Type 0} → (ℕ → Option A) → ℕ → Option A → Type 0
LastSaid says k None = (i : ℕ) → i < k → says i ≡ None
LastSaid says k (Some said) = (j : ℕ) × Greatest says k j said

-- the same, else what was handed in
abbrev pub LastOr : {A : Type 0} → (ℕ → Option A) → ℕ → A → A → Type 0
LastOr says k handed value =
    ((j : ℕ) × Greatest says k j value) ⊎ (((i : ℕ) → i < k → says i ≡ None) × (value ≡ handed))
