-- The values of the rows: "A step works out every row, in a sheet of 12,288 values that starts all no."
use Rattle.std.specs.Prelude.{Bool, false, not, cond, ◌&&◌, ◌||◌, List, [], ◌∷◌, ◌++◌, ℕ, zero, suc, ◌-◌, eqb, get_or}
use Rattle.record.specs.Bits.{bit_at}
use Rattle.layout.specs.Fields.{rows, row_word, event_word, guard_of, kind_of, left_of, right_of}

-- What a row of word w says, by the control bits and by what the rows say. "Kind 0: control bit `left`. Kind 1: not row `left`. Kind 2: both rows. Kind 3: either
-- row."
unfoldable pub says : ℕ → (ℕ → Bool) → (ℕ → Bool) → Bool
says w bit row =
    cond (eqb (kind_of w) 0) (bit (left_of w))
    (cond (eqb (kind_of w) 1) (not (row (left_of w)))
    (cond (eqb (kind_of w) 2) (row (left_of w) && row (right_of w)) (row (left_of w) || row (right_of w))))

-- Its value, from a record's words and the values of the rows before it.
abbrev pub row_value : ℕ → List ℕ → List Bool → Bool
row_value w bits vs = says w (bit_at bits) (λ i. get_or vs i false)

-- The values of the first i rows, lowest row first.
unfoldable pub row_values : List ℕ → List ℕ → ℕ → List Bool
row_values t bits zero = []
row_values t bits (suc i) = row_values t bits i ++ (row_value (row_word t i) bits (row_values t bits i) ∷ [])

-- What every row of a table says.
abbrev pub values_of : List ℕ → List ℕ → List Bool
values_of t bits = row_values t bits (rows t)

-- Whether event e's guard row says yes.
abbrev pub allows : List ℕ → List Bool → ℕ → Bool
allows t vs e = get_or vs (guard_of (event_word t e)) false

-- "Row R−1 says finished."
abbrev pub ended : List ℕ → List Bool → Bool
ended t vs = get_or vs (rows t - 1) false
