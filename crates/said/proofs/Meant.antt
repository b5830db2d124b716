-- What is said is what is meant: the lines of a drawing's listing give the event that has this number, or that is called so.
use mathlib.Core.Path.{◌≡◌, refl, sym, ap, ◌∙◌}
use mathlib.Core.Logic.{⊎_elim}
use mathlib.Core.Bool.{Bool, true, false, ◌||◌}
use mathlib.Core.List.{List, [], ◌∷◌, ◌++◌, append_assoc}
use Prim.Native.Nat.{ℕ, zero, suc, ◌+◌, ◌^◌, ◌≤◌, ◌<◌}
use native.Mathlib.Omega.{arith}
use lib.Dec.{eqb}
use lib.ListN.{length, get_or}
use Rattle.base.specs.Text.{bytes}
use Rattle.base.proofs.Truth.{by_cases, clash, is_false, and_l, and_r, or_r, or_e}
use Rattle.diagram.specs.Tree.{Flow}
use Rattle.base.specs.Equal.{same}
use Rattle.base.proofs.Decided.{same_decides}
use Rattle.diagram.specs.Count.{flow_events, flow_copies}
use Rattle.tokens.specs.Words.{lettered}
use Rattle.reading.specs.Accepted.{Accepted}
use Rattle.process.specs.Process.{Event, events, event_of}
use Rattle.process.specs.Expand.{expand}
use Rattle.process.proofs.Events.{events_counted, event_in_order}
use Rattle.process.proofs.NoTwo.{no_event_twice}
use Rattle.labels.proofs.SearchByTree.{nothing}
use Rattle.output.specs.Decimal.{decimal}
use Rattle.lines.specs.Lines.{first_line, mark, spaced, line, lines as listing_lines}
use Rattle.events.specs.Listing.{drawing_listing}
use Rattle.events.proofs.Short.{Each, each_append, each_at, Short, events_short}
use Rattle.events.proofs.Called.{Without, without, decimal_without, word_without, blanks_no_words, letter_high, digit_low, decimal_one, called_one}
use Rattle.events.proofs.Answers.{short_at}
use Rattle.tokens.specs.Words.{front}
use Rattle.said.specs.Lines.{lines, rest, event_lines}
use Rattle.said.specs.Said.{number_part, label_part, says, before_saying, event_said}
use Rattle.said.specs.Meant.{label, before_meant}
use Rattle.said.proofs.Lines.{line_here, line_on, no_lines}

joined : (bs cs : List ℕ) → Without 10 bs → Without 10 cs → Without 10 (bs ++ cs)
joined bs cs h k = each_append (λ b. eqb b 10 ≡ false) bs cs h k

spaced_without : (vs : List ℕ) → Without 10 (spaced vs)
unfolding spaced
spaced_without [] = tt
spaced_without (v ∷ vs) = (refl, joined (decimal v) (spaced vs) (decimal_without 10 v (omega arith)) (spaced_without vs))

mark_without : (reset : Bool) → Without 10 (mark reset)
mark_without true = without 10 (mark true) refl
mark_without false = tt

label_without : (l : Event) → Short l → Without 10 (label l)
unfolding label
label_without l s =
    joined (mark l.reset) (l.name ++ spaced l.values) (mark_without l.reset)
    (joined l.name (spaced l.values) (word_without 10 l.name blanks_no_words.0 (and_r (lettered l.name) _ s.word)) (spaced_without l.values))

-- A line that ends here, and the lines after it.
line_ended : (bs on : List ℕ) → Without 10 bs → lines ((bs ++ (10 ∷ [])) ++ on) ≡ bs ∷ lines on
line_ended [] on h = line_here 10 on refl
line_ended (b ∷ bs) on h = line_on b _ h.0 ∙ rw (line_ended bs on h.1)

-- An event's line without its end: the number, a space, and what the event is called.
abbrev bare : ℕ → Event → List ℕ
bare e l = decimal e ++ (32 ∷ label l)

line_bare : (e : ℕ) (l : Event) → line e l ≡ bare e l ++ (10 ∷ [])
unfolding line label
line_bare e l = simp append_assoc

bare_without : (e : ℕ) (l : Event) → Short l → Without 10 (bare e l)
bare_without e l s = joined (decimal e) (32 ∷ label l) (decimal_without 10 e (omega arith)) (refl, label_without l s)

-- The lines of some events, as they stand one after the other.
abbrev bares : ℕ → List Event → List (List ℕ)
bares e [] = []
bares e (l ∷ ls) = bare e l ∷ bares (suc e) ls

bares_listed : (e : ℕ) (ls : List Event) → Each Short ls → lines (listing_lines e ls) ≡ bares e ls
unfolding listing_lines
bares_listed e [] s = no_lines
bares_listed e (l ∷ ls) s =
    ap (λ (x : List ℕ). lines (x ++ listing_lines (suc e) ls)) (line_bare e l)
    ∙ (line_ended (bare e l) (listing_lines (suc e) ls) (bare_without e l s.0) ∙ ap (λ (x : List (List ℕ)). bare e l ∷ x) (bares_listed (suc e) ls s.1))

-- The first line, without its end.
abbrev events_word : List ℕ
events_word = bytes "events "

abbrev copies_word : List ℕ
copies_word = bytes " copies "

abbrev counted : ℕ → ℕ → List ℕ
counted e c = events_word ++ (decimal e ++ (copies_word ++ decimal c))

counted_without : (e c : ℕ) → Without 10 (counted e c)
counted_without e c =
    joined events_word (decimal e ++ (copies_word ++ decimal c)) (without 10 events_word refl)
    (joined (decimal e) (copies_word ++ decimal c) (decimal_without 10 e (omega arith))
    (joined copies_word (decimal c) (without 10 copies_word refl) (decimal_without 10 c (omega arith))))

first_counted : (e c : ℕ) → first_line e c ≡ counted e c ++ (10 ∷ [])
unfolding first_line
first_counted e c = simp append_assoc

lines_listed : (d : Flow) → Each Short (events (expand d)) → event_lines (drawing_listing d) ≡ bares 0 (events (expand d))
unfolding event_lines
lines_listed d s =
    ap (λ (x : List ℕ). rest (lines (x ++ listing_lines 0 (events (expand d))))) (first_counted (flow_events d) (flow_copies d))
    ∙ (ap rest (line_ended (counted (flow_events d) (flow_copies d)) (listing_lines 0 (events (expand d))) (counted_without (flow_events d) (flow_copies d)))
    ∙ bares_listed 0 (events (expand d)) s)

-- What stands before the first space, and after it.
parted : (bs on : List ℕ) → Without 32 bs → (number_part (bs ++ (32 ∷ on)) ≡ bs) × (label_part (bs ++ (32 ∷ on)) ≡ on)
unfolding number_part label_part front
parted [] on h = (refl, refl)
parted (b ∷ bs) on h = let p = parted bs on h.1 in (rw h.0 (ap (λ (x : List ℕ). b ∷ x) p.0), rw h.0 p.1)

bare_says : (e : ℕ) (l : Event) (said : List ℕ) → says (bare e l) said ≡ (same (decimal e) said || same (label l) said)
unfolding says
bare_says e l said = let p = parted (decimal e) (label l) (decimal_without 32 e (omega arith)) in rw (p.0, p.1)

bares_say : (e : ℕ) (ls : List Event) (said : List ℕ) → before_saying (bares e ls) said ≡ before_meant ls e said
unfolding before_saying before_meant
bares_say e [] said = refl
bares_say e (l ∷ ls) said = rw (bare_says e l said, bares_say (suc e) ls said)

-- Of an accepted text, the event that is said is the one that is meant.
pub said_is_meant : (text : List ℕ) (d : Flow) → Accepted text d → (said : List ℕ) → event_said (drawing_listing d) said ≡ before_meant (events (expand d)) 0 said
said_is_meant text d a said =
    ap (λ (ls : List (List ℕ)). before_saying ls said) (lines_listed d (events_short text d a)) ∙ bares_say 0 (events (expand d)) said

-- No event is called by a number: a label begins with a letter, a number with a digit.
label_high : (l : Event) → Short l → 57 < get_or (label l) 0 0
unfolding label
label_high l s =
    by_cases l.reset (λ e. rw e (omega arith)) (λ e. rw e (letter_high l.name (spaced l.values) (and_l (lettered l.name) _ s.word)))

not_called : (l : Event) (v : ℕ) → Short l → same (label l) (decimal v) ≡ false
not_called l v s =
    is_false (same (label l) (decimal v))
    (λ t. let q = ap (λ (x : List ℕ). get_or x 0 0) ((same_decides (label l) (decimal v)).0 t) in omega (arith, q, label_high l s, digit_low v))

other_number : (v w : ℕ) → v < w → w < 10 ^ 20 → same (decimal v) (decimal w) ≡ false
other_number v w h k =
    is_false (same (decimal v) (decimal w))
    (λ t. let q = decimal_one v w (omega arith) k ((same_decides (decimal v) (decimal w)).0 t) in omega (arith, q, h))

number_found : (ls : List Event) (e i : ℕ) → Each Short ls → i < length ls → e + i < 10 ^ 20 → before_meant ls e (decimal (e + i)) ≡ i
unfolding before_meant
number_found [] e i s h k = absurd (omega arith)
number_found (l ∷ ls) e zero s h k = let z : e + 0 ≡ e = omega arith in rw (z, (same_decides (decimal e) (decimal e)).1 refl)
number_found (l ∷ ls) e (suc i) s h k =
    let n : e + suc i ≡ suc e + i = omega arith in
    rw (other_number e (e + suc i) (omega arith) k, not_called l (e + suc i) s.0, n) (ap suc (number_found ls (suc e) i s.1 (omega arith) (omega arith)))

-- An event that is said by its number is that event.
pub said_by_number : (text : List ℕ) (d : Flow) → Accepted text d → (e : ℕ) → e < flow_events d → event_said (drawing_listing d) (decimal e) ≡ e
said_by_number text d a e h =
    let c = events_counted d a.keeps.sizes in
    let few = a.events in
    let z : 0 + e ≡ e = omega arith in
    said_is_meant text d a (decimal e) ∙ rw z at (number_found (events (expand d)) 0 e (events_short text d a) (omega arith) (omega arith))

-- The first event that has this number or is called so, where an event is called so: it is no later, and is called so itself.
abbrev Called : List Event → ℕ → ℕ → Event → Type 0
Called ls n i x = (n ≤ i) × (label (get_or ls n x) ≡ label (get_or ls i x))

no_number : (l : Event) (v : ℕ) → Short l → same (decimal v) (label l) ≡ true → ⊥
no_number l v s t = clash ((same_decides (label l) (decimal v)).1 (sym ((same_decides (decimal v) (label l)).0 t))) (not_called l v s)

label_found : (ls : List Event) (e i : ℕ) (x : Event) → Each Short ls → i < length ls → Called ls (before_meant ls e (label (get_or ls i x))) i x
unfolding before_meant
label_found [] e i x s h = absurd (omega arith)
label_found (l ∷ ls) e zero x s h = rw (or_r (same (decimal e) (label l)) ((same_decides (label l) (label l)).1 refl)) (omega arith, refl)
label_found (l ∷ ls) e (suc i) x s h =
    let said = label (get_or ls i x) in
    let k : i < length ls = omega arith in
    by_cases (same (decimal e) said || same (label l) said)
    (λ t. rw t (omega arith, ⊎_elim (λ q. absurd (no_number (get_or ls i x) e (each_at Short ls i x s.1 k) q)) (λ q. (same_decides (label l) said).0 q) (or_e (same (decimal e) said) (same (label l) said) t)))
    (λ t. let p = label_found ls (suc e) i x s.1 k in rw t (omega (arith, p.0), p.1))

-- No event is called by a number, and no two are called the same.
pub no_number_called : (text : List ℕ) (d : Flow) → Accepted text d → (e v : ℕ) → e < flow_events d → label (event_of (expand d) e) ≡ decimal v → ⊥
no_number_called text d a e v h q =
    let l = event_of (expand d) e in
    clash ((same_decides (label l) (decimal v)).1 q) (not_called l v (short_at text d a e h))

pub no_two_called : (text : List ℕ) (d : Flow) → Accepted text d → (e f : ℕ) → e < flow_events d → f < flow_events d
    → label (event_of (expand d) e) ≡ label (event_of (expand d) f) → e ≡ f
unfolding label
no_two_called text d a e f h k q =
    no_event_twice d a.keeps.sizes a.keeps.names e f h k
    (called_one (event_of (expand d) e) (event_of (expand d) f) (short_at text d a e h) (short_at text d a f k) q)

-- An event that is said by what it is called is that event.
pub said_by_label : (text : List ℕ) (d : Flow) → Accepted text d → (e : ℕ) → e < flow_events d → event_said (drawing_listing d) (label (event_of (expand d) e)) ≡ e
said_by_label text d a e h =
    let c = events_counted d a.keeps.sizes in
    let x = event_in_order d a.keeps.sizes e nothing h in
    let n = before_meant (events (expand d)) 0 (label (get_or (events (expand d)) e nothing)) in
    let f : Called (events (expand d)) n e nothing = label_found (events (expand d)) 0 e nothing (events_short text d a) (omega arith) in
    let l : n < flow_events d = omega (arith, f.0, h) in
    let y = event_in_order d a.keeps.sizes n nothing l in
    rw (x, said_is_meant text d a (label (get_or (events (expand d)) e nothing))) (no_two_called text d a n e l h (rw (x, y) f.1))
