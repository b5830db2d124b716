-- What rows say, and what they name.
use mathlib.Core.Bool.{Bool, not, ◌||◌}
use mathlib.Core.Path.{◌≡◌, refl}
use mathlib.Core.List.{List, [], ◌∷◌}
use Prim.Native.Nat.{ℕ, suc, ◌<◌, ◌^◌}
use Rattle.std.specs.Prelude.{Option, Some, None, unwrap_or}
use Rattle.process.specs.Process.{Process}
use Rattle.process.specs.Bits.{Bits}
use Rattle.process.specs.Guards.{begun, complete}
use Rattle.layout.specs.Sound.{RowKeeps}
use Rattle.layout.specs.Values.{says}
use Rattle.plan.specs.declared.PartRows.{PartRows}

-- ---- what rows say
-- The values are those of these rows, the first of which is row k.
unfoldable pub Obeys : Bits → (ℕ → Bool) → ℕ → List ℕ → Type 0
Obeys s v k [] = Unit {0}
Obeys s v k (w ∷ ws) = (v k ≡ says w s v) × Obeys s v (suc k) ws

-- The rows of a part say of a process what the bits say.
pub record PartAgrees (p : Process) (s : Bits) (v : ℕ → Bool) (m : PartRows) : Type 0 where
  pub its_begun : v m.begun ≡ begun p s
  pub its_idle : v m.idle ≡ not (begun p s)
  pub its_done : v m.done ≡ complete p s
  pub its_settled : (row : ℕ) → m.settled ≡ Some row → v row ≡ (complete p s || not (begun p s))

-- ---- what rows name
-- Each row is a word of 32 bits that keeps the sentences on rows, where there are n events; the first of them is row k.
unfoldable pub Lower : ℕ → ℕ → List ℕ → Type 0
Lower n k [] = Unit {0}
Lower n k (w ∷ ws) = RowKeeps w n k × (w < 2 ^ 32) × Lower n (suc k) ws

-- The rows of a part are below k; the first event is the part's.
pub record Below (k first : ℕ) (m : PartRows) : Type 0 where
  pub its_begun : m.begun < k
  pub its_idle : m.idle < k
  pub its_done : m.done < k
  pub its_settled : unwrap_or m.settled 0 < k
  pub its_first : m.first ≡ first

-- By whether there is something.
pub by_option : {A G : Type 0} (o : Option A) → (o ≡ None → G) → ((a : A) → o ≡ Some a → G) → G
by_option None f g = f refl
by_option (Some a) f g = g a refl

-- A row that settles a part is the one that is written there.
pub settled_by : (v : ℕ → Bool) (b : Bool) (k : ℕ) → v k ≡ b → (row : ℕ) → Some k ≡ Some row → v row ≡ b
settled_by v b k h row e = cc
