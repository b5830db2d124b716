-- A listing has at most 32,768 bytes: at most 22 for the first line, and 44 for each of at most 512 events.
use mathlib.Core.Bool.{Bool, true, false}
use mathlib.Core.List.{List, [], ◌∷◌}
use Prim.Native.Nat.{ℕ, suc, ◌+◌, ◌*◌, ◌≤◌, ◌<◌}
use native.Mathlib.Omega.{arith}
use lib.ListN.{length, length-append}
use Rattle.diagram.specs.Count.{flow_events, flow_copies}
use Rattle.base.specs.Refusals.{number}
use Rattle.base.specs.Text.{bytes}
use Rattle.output.proofs.Decimals.{decimal_short}
use Rattle.output.proofs.Lines.{two_numbers_short, refused_short}
use Rattle.reading.proofs.Bounds.{refused_at_near}
use Rattle.process.specs.Process.{Event, events}
use Rattle.process.specs.Expand.{expand}
use Rattle.process.proofs.Events.{events_counted}
use Rattle.reading.specs.Reading.{Reading, drawing, no_drawing}
use Rattle.lines.specs.Lines.{first_line, spaced, mark, line, lines}
use Rattle.events.specs.Listing.{listing}
use Rattle.events.proofs.Short.{Each, Small, Short, events_short}

-- A value below 16 has at most 2 digits, and a space before them.
spaced_short : (vs : List ℕ) → Each Small vs → length (spaced vs) ≤ 3 * length vs
unfolding spaced
spaced_short [] h = omega arith
spaced_short (v ∷ vs) h = simp length-append (omega (arith, decimal_short 1 v (omega arith), spaced_short vs h.1))

mark_short : (reset : Bool) → length (mark reset) ≤ 6
mark_short true = omega arith
mark_short false = omega arith

-- 3 digits, a space, 6 bytes for `reset`, 24 for the name, 9 for 3 values, the line's end.
line_short : (e : ℕ) (l : Event) → e < 1000 → Short l → length (line e l) ≤ 44
unfolding line
line_short e l h s = simp length-append (omega (arith, decimal_short 2 e h, mark_short l.reset, spaced_short l.values s.small))

-- Numbers up to 999 have 3 digits, and there are fewer events.
lines_short : (e : ℕ) (ls : List Event) → e + length ls ≤ 1000 → Each Short ls → length (lines e ls) ≤ 44 * length ls
unfolding lines
lines_short e [] h s = omega arith
lines_short e (l ∷ ls) h s =
    simp length-append (omega (arith, line_short e l (omega arith) s.0, lines_short (suc e) ls (omega arith) s.1))

first_short : (e c : ℕ) → e < 1000 → c < 1000 → length (first_line e c) ≤ 22
unfolding first_line
first_short e c h k = omega (arith, two_numbers_short (bytes "events ") (bytes " copies ") e c 2 2 h k)

pub listing_short : {text : List ℕ} (w : Reading text) → length (listing w) ≤ 32768
unfolding listing
listing_short {text} (drawing d a) =
    let c = events_counted d a.keeps.sizes in
    simp length-append
    (omega (arith, first_short (flow_events d) (flow_copies d) (omega arith) (omega arith), lines_short 0 (events (expand d)) (omega arith) (events_short text d a)))
listing_short {text} (no_drawing reason p r) =
    let h = refused_at_near text (number reason) p r in omega (arith, refused_short (number reason) p (omega arith) (omega arith))
