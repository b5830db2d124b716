-- What the variables of an accepted text's diagram are called: words of at most 26 bytes, and no two alike, where no event has values.
use mathlib.Core.Path.{◌≡◌, refl, sym, ◌∙◌}
use mathlib.Core.Bool.{Bool, true, false, cond}
use mathlib.Core.List.{List, ◌++◌, head-eq_of_cons-eq, tail-eq_of_cons-eq}
use Prim.Native.Nat.{ℕ, ◌+◌, ◌≤◌, ◌<◌}
use native.Mathlib.Omega.{arith}
use lib.ListN.{length}
use Rattle.base.specs.Text.{bytes}
use Rattle.base.proofs.Truth.{and_r}
use Rattle.diagram.specs.Tree.{Flow}
use Rattle.diagram.specs.Count.{flow_events}
use Rattle.tokens.specs.Classes.{class_of, worded}
use Rattle.tokens.specs.Words.{lettered, every}
use Rattle.reading.specs.Accepted.{Accepted}
use Rattle.process.specs.Process.{event_of}
use Rattle.process.specs.Expand.{expand}
use Rattle.process.proofs.NoTwo.{no_event_twice}
use Rattle.events.proofs.Called.{same_event}
use Rattle.events.proofs.Answers.{short_at}
use Rattle.formulas.proofs.Unambiguous.{Proper}
use Rattle.modelling.specs.Profile.{in_profile}
use Rattle.modelling.specs.Texts.{naming}
use Rattle.modelling.proofs.Unvalued.{no_values}

-- `v_` or `r_`, and a word, is a word.
marked_word : (b : Bool) (n : List ℕ) → every worded n ≡ true → every worded (cond b (bytes "r_") (bytes "v_") ++ n) ≡ true
unfolding class_of
marked_word true n h = h
marked_word false n h = h

-- The mark tells a reset from a leaf.
marked_once : (b c : Bool) (m n : List ℕ) → cond b (bytes "r_") (bytes "v_") ++ m ≡ cond c (bytes "r_") (bytes "v_") ++ n → (b ≡ c) × (m ≡ n)
marked_once true true m n h = (refl, tail-eq_of_cons-eq (tail-eq_of_cons-eq h))
marked_once true false m n h = absurd (omega (arith, head-eq_of_cons-eq h))
marked_once false true m n h = absurd (omega (arith, head-eq_of_cons-eq h))
marked_once false false m n h = (refl, tail-eq_of_cons-eq (tail-eq_of_cons-eq h))

marked_length : (b : Bool) (n : List ℕ) → length (cond b (bytes "r_") (bytes "v_") ++ n) ≡ 2 + length n
marked_length true n = omega arith
marked_length false n = omega arith

module _ (text : List ℕ) (d : Flow) (a : Accepted text d) where
  pub short_names : (e : ℕ) → e < flow_events d → length (naming d e) ≤ 26
  short_names e h =
      let l = event_of (expand d) e in
      omega (arith, marked_length l.reset l.name, (short_at text d a e h).name)

  pub proper_names : in_profile d ≡ true → Proper (flow_events d) (naming d)
  proper_names p = record {
    words = λ e h. let l = event_of (expand d) e in
        marked_word l.reset l.name (and_r (lettered l.name) (every worded l.name) (short_at text d a e h).word);
    different = λ e f h k q.
        let l = event_of (expand d) e in
        let m = event_of (expand d) f in
        let s = marked_once l.reset m.reset l.name m.name q in
        no_event_twice d a.keeps.sizes a.keeps.names e f h k (same_event l m s.0 s.1 (no_values d p e ∙ sym (no_values d p f)));
  }
