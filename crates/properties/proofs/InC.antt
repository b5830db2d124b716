-- The C calls step and finished: their numbers and record bytes are those that stand for the answers and records of the calls by value.
use mathlib.Core.Path.{◌≡◌, refl, sym, ap, ◌∙◌}
use mathlib.Core.List.{List, map}
use Prim.Native.Nat.{ℕ}
use lib.Dec.{ltb, lit<}
use lib.ListN.{replicate, get_or-replicate, get_or-eq_default}
use borrow.Author.Tests.{ltb-true, ltb-false}
use Rattle.base.proofs.Truth.{by_cases}
use Rattle.plays.specs.Plays.{play}
use Rattle.plays.proofs.Played.{stands_for}
use Rattle.record.specs.Bytes.{Bytes, bytes_of}
use Rattle.record.specs.Blank.{blank_record}
use Rattle.record.specs.declared.Record.{Record}
use Rattle.record.proofs.RoundTrip.{bytes_back}
use Rattle.firmware.specs.Calls.{record_of, step_bytes}
use Rattle.firmware.proofs.Laws.{blank_bytes, step_numbered, step_held, step_bytes_again, finished_numbered}
use Rattle.book.specs.Calls.{Call, step, finished, call}
use Rattle.properties.specs.InC.{in_c, c_call}

-- One call.
c_call_stands : (t bytes : List ℕ) → Bytes bytes → (c : Call)
    → (c_call t bytes c ≡ in_c (call t (record_of bytes) c)) × Bytes (c_call t bytes c).after × (record_of (c_call t bytes c).after ≡ (call t (record_of bytes) c).after)
c_call_stands t bytes b (step e) =
    let again = step_bytes_again t bytes e b in
    let held = step_held t bytes e b in
    let back = sym (bytes_back (step_bytes t bytes e) again) ∙ ap (λ (r : Record). bytes_of r.bits) held in
    let number = step_numbered t bytes e b in
    (cc, again, held)
c_call_stands t bytes b finished =
    let back = bytes_back bytes b in
    let number = finished_numbered t bytes 0 b in
    (cc, b, refl)

-- Any list of calls, from any record of 64 bytes, on any table.
pub c_calls_stand : (t bytes : List ℕ) → Bytes bytes → (calls : List Call) → play (c_call t) bytes calls ≡ map in_c (play (call t) (record_of bytes) calls)
c_calls_stand t = stands_for (call t) (c_call t) in_c record_of Bytes (c_call_stands t)

-- From 64 zero bytes, which hold the blank record.
blank_is_bytes : Bytes (replicate 64 0)
blank_is_bytes = (
  refl,
  λ i. by_cases (ltb i 64) (λ l. rw (get_or-replicate {A = ℕ} 64 i 0 0 (ltb-true i 64 l)) (lit< tt))
      (λ l. rw (get_or-eq_default {A = ℕ} (replicate 64 0) 0 (ltb-false i 64 l)) (lit< tt)),
)

pub blank_in_c : (t : List ℕ) (calls : List Call) → play (c_call t) (replicate 64 0) calls ≡ map in_c (play (call t) blank_record calls)
blank_in_c t calls = rw (← blank_bytes) (c_calls_stand t (replicate 64 0) blank_is_bytes calls)
