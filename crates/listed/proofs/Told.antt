-- The lines of events, told one after the other.
use mathlib.Core.Path.{◌≡◌, refl, sym, ap, ◌∙◌}
use mathlib.Core.Bool.{Bool}
use mathlib.Core.List.{List, [], ◌∷◌, append-nil, append_assoc, foldl, foldl-append}
use Prim.Native.Nat.{ℕ, suc, ◌+◌, ◌%◌, ◌≤◌}
use native.Mathlib.Omega.{arith}
use lib.ListN.{length}
use Rattle.tokens.specs.Words.{word_at}
use Rattle.process.specs.Process.{Event, Joint, Process, join, events}
use Rattle.output.specs.Buffer.{Buffer, put_all}
use Rattle.output.specs.Decimal.{decimal}
use Rattle.output.proofs.Buffers.{put_all_append}
use Rattle.labels.specs.Values.{packed}
use Rattle.lines.specs.Lines.{spaced, line, lines}
use Rattle.lines.specs.code.Written.{line_head, spaced_values, line_at}
use Rattle.lines.specs.code.Walks.{Told, told, tell}

-- Values as they are packed.
spaced_packed : (vs : List ℕ) → length vs ≤ 3 → spaced_values (packed vs) ≡ spaced vs
unfolding spaced_values spaced
spaced_packed [] h = refl
spaced_packed (a ∷ []) h = refl
spaced_packed (a ∷ b ∷ []) h = refl
spaced_packed (a ∷ b ∷ c ∷ []) h = rw (append-nil (decimal c))
spaced_packed (a ∷ b ∷ c ∷ x ∷ vs) h = let z : ⊥ = omega arith in absurd z

abbrev pub event : Bool → List ℕ → List ℕ → Event
event reset name vs = record { reset = reset; name = name; values = vs }

-- One event more.
abbrev pub telling : Told → Event → Told
telling t l = told (t.event % 1024 + 1) (put_all (line t.event l) t.out)

-- What is told of a name that stands at a place is the line of an event with this name.
pub tell_event : (text : List ℕ) (reset : Bool) (place : ℕ) (name vs : List ℕ) (t : Told) → word_at text place ≡ name → length vs ≤ 3
    → tell text reset place (packed vs) t ≡ telling t (event reset name vs)
unfolding tell line_at line_head line
tell_event text reset place name vs t g h =
    ap (λ (bs : List ℕ). told (t.event % 1024 + 1) (put_all bs t.out)) (rw (g, spaced_packed vs h) (append_assoc (decimal t.event) _ _))

-- The events of a process.
abbrev pub all_told : Told → Process → Told
all_told t p = foldl telling t (events p)

pub told_join : (j : Joint) (p q : Process) (t : Told) → all_told t (join j p q) ≡ all_told (all_told t p) q
unfolding events
told_join j p q t = foldl-append telling t (events p) (events q)

-- Up to 1,024 events have the numbers that their lines say.
pub lines_told : (e : ℕ) (ls : List Event) (s : Buffer) → e + length ls ≤ 1024 → (foldl telling (told e s) ls).out ≡ put_all (lines e ls) s
unfolding lines put_all
lines_told e [] s h = refl
lines_told e (l ∷ ls) s h =
    let n : e % 1024 + 1 ≡ suc e = omega arith in
    ap (λ (m : ℕ). (foldl telling (told m (put_all (line e l) s)) ls).out) n
    ∙ (lines_told (suc e) ls (put_all (line e l) s) (omega arith) ∙ sym (put_all_append (line e l) (lines (suc e) ls) s))
