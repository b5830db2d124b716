-- What reading answers depends on the tokens with their places, and on the text's length; so a text that has no foreign byte is answered as with
-- blanks in place of its remarks.
use mathlib.Core.Path.{◌≡◌, refl, sym, ap, ap₂, ◌∙◌}
use mathlib.Core.Bool.{false, cond}
use mathlib.Core.List.{List, map}
use Prim.Native.Nat.{ℕ, ◌+◌}
use lib.ListN.{length, get_or}
use Rattle.std.specs.Prelude.{Result, Ok, Err}
use Rattle.base.specs.Refusals.{refusal}
use Rattle.base.specs.declared.Refusal.{Refusal}
use Rattle.diagram.specs.Tree.{Flow}
use Rattle.diagram.specs.TreeNodes.{TextNode, own, has_name, nodes_by}
use Rattle.diagram.specs.declared.Node.{Node}
use Rattle.tokens.specs.Words.{keywords}
use Rattle.tokens.specs.Spans.{Span, spans_of, places}
use Rattle.tokens.specs.Token.{token_of, text_tokens}
use Rattle.tokens.specs.Scanned.{scan_of}
use Rattle.reading.proofs.Blanked.{blanked_length, blanked_spans}
use Rattle.grammar.specs.Keys.{keys_from, keyword_at, name_at}
use Rattle.grammar.specs.Machine.{Outcome, whole, stop, outcome}
use Rattle.rules.specs.Judged.{Verdict}
use Rattle.reading.specs.Blanked.{blanked}
use Rattle.reading.specs.Nodes.{name_place, node_of, stored}
use Rattle.reading.specs.Answers.{judged, read_of}
use Rattle.reading.specs.Refused.{place_of, Usual, Clean, Derived}
use Rattle.reading.proofs.Scans.{scan_clean, none_strange}
use Rattle.reading.proofs.Verdicts.{tree_verdict}
use Rattle.reading.proofs.Derived.{whole_derived, derived_answer}
use Rattle.reading.proofs.Exact.{scanned_as, stopped}

module _ (s t : List ℕ) (e : spans_of s ≡ spans_of t) (l : length s ≡ length t) where
  places_alike : places s ≡ places t
  unfolding places
  places_alike = ap (map (λ (x : Span). x.place)) e

  tokens_alike : text_tokens keywords s ≡ text_tokens keywords t
  unfolding text_tokens
  tokens_alike = ap (map (λ (x : Span). token_of keywords x.bytes)) e

  scans_alike : scan_of s ≡ scan_of t
  unfolding scan_of
  scans_alike = rw (e, l)

  keywords_alike : keyword_at s ≡ keyword_at t
  unfolding keyword_at
  keywords_alike = ap₂ {C = ℕ → ℕ} (λ ps ts i. get_or ps (get_or (keys_from 0 ts) i 0) 0) places_alike tokens_alike

  names_alike : name_at s ≡ name_at t
  unfolding name_at
  names_alike = ap₂ {C = ℕ → ℕ} (λ ps ts i. get_or ps (get_or (keys_from 0 ts) i 0 + 2) 0) places_alike tokens_alike

  nodes_alike : node_of s ≡ node_of t
  unfolding node_of name_place
  nodes_alike =
      ap₂ {C = TextNode → Node} (λ k n h. record {
        kind = h.kind;
        solid = h.solid;
        strong = h.strong;
        depth = h.depth;
        at = k h.number;
        name = cond (has_name h.kind) (n h.number) 0;
      }) keywords_alike names_alike

  judged_alike : (hs : List TextNode) (v : Verdict) → judged s hs v ≡ judged t hs v
  unfolding stored
  judged_alike hs (Err r) = refl
  judged_alike hs (Ok counts) = rw nodes_alike

  verdicts_alike : (d : Flow) → tree_verdict s d ≡ tree_verdict t d
  verdicts_alike d = rw (keywords_alike, names_alike)

  derived_too : (d : Flow) → Derived s d → Derived t d
  derived_too d g = record { size = rw (← l) g.size; derives = rw (← tokens_alike) g.derives; nodes = g.nodes; depth = g.depth }

  derived_alike : (d : Flow) → Derived s d → read_of s ≡ read_of t
  derived_alike d g =
      derived_answer s d g
      ∙ ap (judged s (nodes_by own d)) (verdicts_alike d)
      ∙ judged_alike (nodes_by own d) (tree_verdict t d)
      ∙ sym (derived_answer t d (derived_too d g))

  place_alike : (k : ℕ) → place_of s k ≡ place_of t k
  place_alike k = ap₂ (λ (ps : List ℕ) (n : ℕ). get_or ps k n) places_alike l

  clean_alike : Clean s → Clean t → read_of s ≡ read_of t
  clean_alike a b = go (outcome (text_tokens keywords s)) refl
    where
      go : (o : Outcome) → outcome (text_tokens keywords s) ≡ o → read_of s ≡ read_of t
      go (whole n) q = let r = whole_derived s n a.size q in derived_alike r.0 r.1
      go (stop c k) q =
          stopped s c k a q ∙ ap (λ (p : ℕ). Err (refusal c p)) (place_alike k) ∙ sym (stopped t c k b (sym (ap outcome tokens_alike) ∙ q))

  -- Texts of one length with the same tokens at the same places get the same answer, diagram and places included.
  pub read_alike : read_of s ≡ read_of t
  read_alike = go (scan_of s) refl
    where
      go : (r : Result ℕ Refusal) → scan_of s ≡ r → read_of s ≡ read_of t
      go (Ok n) q = clean_alike (scan_clean s n q) (scan_clean t n (sym scans_alike ∙ q))
      go (Err r) q = scanned_as s (Err r) q ∙ sym (scanned_as t (Err r) (sym scans_alike ∙ q))

pub remarks_as_blanks : (text : List ℕ) → Usual text → read_of (blanked false text) ≡ read_of text
remarks_as_blanks text u = read_alike (blanked false text) text (blanked_spans text (none_strange text u)) (blanked_length false text)
