-- The limits of a table's size, worked through.
use Rattle.std.specs.Prelude.{◌≡◌, Bool, true, false, List, [], ◌∷◌, map, ℕ, ◌+◌, ◌*◌, ◌/◌, ◌%◌, replicate}
use Rattle.layout.specs.Sound.{sized}

-- "E 1 to 512, R 1 to 12,288", both sides of each limit: the size of a table of n events and m rows whose records and rows are all zeros.
abbrev pub zeros : ℕ → ℕ → List ℕ
zeros n m = n / 256 ∷ n % 256 ∷ m / 256 ∷ m % 256 ∷ replicate (4 * n + 4 * m) 0

pub record Limit : Type 0 where
  pub events : ℕ
  pub rows : ℕ
  pub fits : Bool

abbrev limit : ℕ → ℕ → Bool → Limit
limit n m fits = record { events = n; rows = m; fits = fits }

abbrev pub limits : List Limit
limits =
    limit 0 1 false ∷ limit 1 0 false ∷ limit 1 1 true ∷ limit 512 1 true ∷ limit 513 1 false ∷ limit 1 12288 true ∷ limit 1 12289 false ∷ []

abbrev pub Sizes : List Limit → Type 0
Sizes ls = map (λ (l : Limit). sized (zeros l.events l.rows)) ls ≡ map (λ (l : Limit). l.fits) ls
