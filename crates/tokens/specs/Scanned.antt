-- Document 01, "Numbers for what is turned away", numbers 2, 3 and 4: what is refused before the grammar is looked at.
use Rattle.std.specs.Prelude.{cond, List, [], ◌∷◌, ℕ, Result, Ok, Err, ltb, length, get_or}
use Rattle.base.specs.Refusals.{refusal}
use Rattle.base.specs.declared.Reason.TheVariants.{Text, Byte, Word}
use Rattle.base.specs.declared.Refusal.{Refusal}
use Rattle.tokens.specs.Classes.{foreign}
use Rattle.tokens.specs.Words.{short}
use Rattle.tokens.specs.Spans.{Span, spans_of}

-- Number 3: the place of the first token whose first byte is foreign, or the number given. A foreign byte is a token of its own, also in a
-- remark, since what is skipped ends before it.
unfoldable pub foreign_in : List Span → ℕ → ℕ
foreign_in [] none = none
foreign_in (s ∷ ss) none = cond (foreign (get_or s.bytes 0 0)) s.place (foreign_in ss none)

abbrev pub first_foreign : List ℕ → ℕ
first_foreign text = foreign_in (spans_of text) (length text)

-- Number 4: the place of the first token of over 24 bytes, or the number given.
unfoldable pub first_long : List Span → ℕ → ℕ
first_long [] none = none
first_long (s ∷ ss) none = cond (short s.bytes) (first_long ss none) s.place

-- How many tokens a text has, or the refusal: 2 over 16,384 bytes, 3 for a foreign byte, 4 for a word of over 24 bytes, in this
-- order over the whole text.
unfoldable pub scan_of : List ℕ → Result ℕ Refusal
scan_of text =
    cond (ltb 16384 (length text)) (Err (refusal Text 16384))
    (cond (ltb (first_foreign text) (length text)) (Err (refusal Byte (first_foreign text)))
    (cond (ltb (first_long (spans_of text) (length text)) (length text)) (Err (refusal Word (first_long (spans_of text) (length text))))
    (Ok (length (spans_of text)))))
