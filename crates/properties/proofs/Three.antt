-- Property 3, from the contracts of the calls to the book.
use mathlib.Core.Path.{◌≡◌, ap, ap₂, ◌∙◌}
use mathlib.Core.Logic.{inl, inr}
use mathlib.Core.List.{List}
use Prim.Native.Nat.{ℕ}
use lib.ListN.{take}
use Rattle.std.specs.Prelude.{Bool, Result, ⊤}
use Rattle.base.specs.declared.Refusal.{Refusal}
use Rattle.record.specs.Blank.{blank_record}
use Rattle.record.specs.declared.Record.{Record}
use Rattle.table.specs.declared.Stepped.{Stepped}
use Rattle.plays.specs.Plays.{Line, play}
use Rattle.plays.proofs.Played.{made_is_play}
use Rattle.book.specs.Calls.{Call, step, finished, Reply, stepped, reported, call}
use Rattle.book.proofs.Once.{by_book_once}
use Rattle.translator.proofs.Bounds.{accepted_translated}
use Rattle.properties.specs.InC.{c_call}
use Rattle.properties.specs.Three.{Makes, CMakes, Property3}
use Rattle.properties.proofs.InC.{blank_in_c}
use Rattle.properties.proofs.Kept.{steps_met, finishes_met, updates_met, c_steps_met, c_finishes_met, translates_met}

-- What a call that was made answered and left, by value and through C.
made_call : (t : List ℕ) (before : Record) (c : Call) (l : Line Reply Record) → Makes t before c l → l ≡ call t before c
made_call t before (step e) l (inl (r, m, q)) = q ∙ ap (λ (s : Stepped). record { reply = stepped s.answer; after = s.after }) (steps_met t before e r m)
made_call t before (step e) l (inr (a, r, m, q)) =
    let (x, y) = updates_met t before e a r m in q ∙ ap₂ (λ (a : Result ⊤ Refusal) (r : Record). record { reply = stepped a; after = r }) x y
made_call t before finished l (f, m, q) = q ∙ ap (λ (f : Result Bool Refusal). record { reply = reported f; after = before }) (finishes_met t before f m)

made_c_call : (t bytes : List ℕ) (c : Call) (l : Line ℕ (List ℕ)) → CMakes t bytes c l → l ≡ c_call t bytes c
made_c_call t bytes (step e) l m = let (x, y) = c_steps_met t bytes e l.reply l.after m in rw (← x, ← y)
made_c_call t bytes finished l (m, y) = rw (← (c_finishes_met t bytes l.reply m), ← y)

pub property_3 : Property3
property_3 text d a lent long r left m =
    let t = accepted_translated text lent r left (translates_met text lent r left m) d a long in
    let table = take t.0 left in
    let plays = t.2.its_runs in
    record {
      count = t.0;
      written = t.1;
      lines = λ calls. play (call table) blank_record calls;
      kept = plays;
      only = λ calls other k. by_book_once d calls other (play (call table) blank_record calls) k (plays calls);
      by_book = λ calls made k. made_is_play (Makes table) (call table) (made_call table) k;
      by_book_in_c = λ calls made k. made_is_play (CMakes table) (c_call table) (made_c_call table) k ∙ blank_in_c table calls;
    }
