-- What is shown of a run is never cut: a buffer of 262,144 bytes has room for it, where the listing has at most 32,768 bytes and what is said at most 64.
use mathlib.Core.Path.{◌≡◌}
use Rattle.std.specs.Prelude.{⊤, Result, Ok, Err}
use mathlib.Core.Bool.{Bool, true, false}
use mathlib.Core.List.{List, [], ◌∷◌}
use Prim.Native.Nat.{ℕ, suc, ◌+◌, ◌*◌, ◌≤◌}
use native.Mathlib.Omega.{arith}
use lib.Dec.{eqb}
use lib.ListN.{length, length-append}
use Rattle.base.specs.Fill.{fill}
use Rattle.base.specs.Text.{bytes}
use Rattle.base.specs.Refusals.{number}
use Rattle.base.specs.declared.Refusal.{Refusal}
use Rattle.base.proofs.Truth.{by_cases}
use Rattle.output.specs.Buffer.{buffer, put_all}
use Rattle.output.proofs.Buffers.{whole}
use Rattle.output.proofs.Lines.{refused_most}
use Rattle.record.specs.Bits.{bit_at}
use Rattle.record.specs.Blank.{blank_record}
use Rattle.record.specs.declared.Record.{Record}
use Rattle.table.specs.Steps.{finished_of}
use Rattle.table.specs.declared.Stepped.{Stepped}
use Rattle.said.specs.Lines.{onto, lines, first, rest, event_lines}
use Rattle.player.specs.Shown.{item, chosen, events_line, next_bits, state_text, answer_text, answer_line, stepped_text, said_step, opening_text, finish_text, closing_text}

-- The bytes of lines with their ends.
abbrev size : List (List ℕ) → ℕ
size [] = 0
size (l ∷ ls) = suc (length l) + size ls

onto_size : (b : ℕ) (bs : List ℕ) (ls : List (List ℕ)) → size ls ≤ suc (length bs) → size (onto b ls) ≤ suc (length (b ∷ bs))
onto_size b bs [] h = omega arith
onto_size b bs (l ∷ ls) h = omega arith

lines_size : (s : List ℕ) → size (lines s) ≤ suc (length s)
unfolding lines
lines_size [] = omega arith
lines_size (b ∷ bs) =
    let h = lines_size bs in
    by_cases (eqb b 10) (λ e. rw e (omega arith)) (λ e. rw e (onto_size b bs (lines bs) h))

rest_size : (ls : List (List ℕ)) → size (rest ls) ≤ size ls
rest_size [] = omega arith
rest_size (l ∷ ls) = omega arith

first_size : (ls : List (List ℕ)) → length (first ls) ≤ size ls
first_size [] = omega arith
first_size (l ∷ ls) = omega arith

item_short : (there : Bool) (l : List ℕ) → length (item there l) ≤ length l + 3
item_short true l = simp length-append (omega arith)
item_short false l = omega arith

chosen_size : (ls : List (List ℕ)) (bits : List ℕ) (e : ℕ) → length (chosen ls bits e) ≤ 3 * size ls
unfolding chosen
chosen_size [] bits e = omega arith
chosen_size (l ∷ ls) bits e = simp length-append (omega (arith, item_short (bit_at bits e) l, chosen_size ls bits (suc e)))

chosen_short : (listing bits : List ℕ) → length (chosen (event_lines listing) bits 0) ≤ 3 * suc (length listing)
unfolding event_lines
chosen_short listing bits = omega (arith, chosen_size (rest (lines listing)) bits 0, rest_size (lines listing), lines_size listing)

line_short : (word listing bits : List ℕ) → length (events_line word listing bits) ≤ length word + 3 * length listing + 4
unfolding events_line
line_short word listing bits = simp length-append (omega (arith, chosen_short listing bits))

state_short : (listing table : List ℕ) (r : Record) → length (state_text listing table r) ≤ 6 * length listing + 16
unfolding state_text
state_short listing table r =
    simp length-append (omega (arith, line_short (bytes "bits") listing r.bits, line_short (bytes "next") listing (next_bits table r)))

answer_short : (a : Result ⊤ Refusal) → length (answer_text a) ≤ 50
answer_short (Ok done) = omega arith
answer_short (Err r) = refused_most (number r.reason) r.place

finish_short : (f : Result Bool Refusal) → length (finish_text f) ≤ 50
finish_short (Ok true) = omega arith
finish_short (Ok false) = omega arith
finish_short (Err r) = refused_most (number r.reason) r.place

stepped_short : (listing table said : List ℕ) (s : Stepped) → length (stepped_text listing table said s) ≤ 6 * length listing + length said + 68
unfolding stepped_text answer_line
stepped_short listing table said s = simp length-append (omega (arith, answer_short s.answer, state_short listing table s.after))

opening_short : (listing table : List ℕ) → length (opening_text listing table) ≤ 7 * length listing + 18
unfolding opening_text
opening_short listing table = simp length-append (omega (arith, first_size (lines listing), lines_size listing, state_short listing table blank_record))

closing_short : (table : List ℕ) (r : Record) → length (closing_text table r) ≤ 50
unfolding closing_text
closing_short table r = finish_short (finished_of table r)

-- What is written is all of it, and the bytes past it stay.
module _ (listing table lent left : List ℕ) (n : ℕ) (few : length listing ≤ 32768) (room : 262144 ≤ length lent) where
  pub turn_whole : (said : List ℕ) (before : Record) → length said ≤ 64 → (text : List ℕ) → text ≡ stepped_text listing table said (said_step listing table before said)
      → buffer n left ≡ put_all text (buffer 0 lent) → (n ≡ length text) × (left ≡ fill lent text)
  turn_whole said before h text t q = whole text lent left n q (rw t (omega (arith, stepped_short listing table said (said_step listing table before said))))

  pub opening_whole : (text : List ℕ) → text ≡ opening_text listing table → buffer n left ≡ put_all text (buffer 0 lent) → (n ≡ length text) × (left ≡ fill lent text)
  opening_whole text t q = whole text lent left n q (rw t (omega (arith, opening_short listing table)))

pub closing_whole : (table lent left : List ℕ) (n : ℕ) (r : Record) (text : List ℕ) → 64 ≤ length lent → text ≡ closing_text table r
    → buffer n left ≡ put_all text (buffer 0 lent) → (n ≡ length text) × (left ≡ fill lent text)
closing_whole table lent left n r text room t q = whole text lent left n q (rw t (omega (arith, closing_short table r)))
