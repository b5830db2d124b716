-- The lines of the drawings hold: one computation over the whole table, and one law that turns a line's test into the line.
use mathlib.Core.Path.{◌≡◌, refl, sym, ap, ◌∙◌}
use mathlib.Core.Bool.{Bool, true, not, ◌&&◌}
use mathlib.Core.List.{List, [], ◌∷◌, ◌++◌, map, Memᴰ, head-eq_of_cons-eq, tail-eq_of_cons-eq}
use Prim.Native.Nat.{ℕ}
use lib.Dec.{eqb, leb, lit<}
use lib.ListN.{length}
use borrow.Author.Tests.{eqb-true, leb-true}
use Rattle.base.specs.Text.{bytes}
use Rattle.base.proofs.Truth.{and_l, and_r, clash, not_e}
use Rattle.diagram.specs.Tree.{Flow}
use Rattle.diagram.specs.Count.{flow_nodes, flow_copies, flow_events}
use Rattle.diagram.specs.Depth.{flow_depth}
use Rattle.diagram.specs.Sizes.{flow_sized}
use Rattle.diagram.specs.Names.{flow_names}
use Rattle.diagram.specs.Parameters.{flow_parameters}
use Rattle.diagram.specs.Flows.{each_flow}
use Rattle.diagram.specs.Rules.{Keeps}
use Rattle.diagram.proofs.Kept.{keeps?, keeps_decided}
use Rattle.tokens.specs.Classes.{class_of}
use Rattle.tokens.specs.Remarks.{stretch}
use Rattle.tokens.specs.Words.{front, keywords}
use Rattle.tokens.specs.Spans.{width, spans, spans_of}
use Rattle.tokens.specs.Token.{Token, named, word_token, token_of, text_tokens}
use Rattle.grammar.specs.Named.{flow_named}
use Rattle.grammar.specs.Tokens.{flow_tokens}
use Rattle.process.specs.Process.{owns}
use Rattle.process.specs.Expand.{expand, flow_process}
use Rattle.process.specs.Runs.{Begins}
use Rattle.process.specs.Bits.{clears}
use Rattle.process.specs.Guards.{begun, complete, enabled}
use Rattle.process.specs.Decide.{begins?, whole?}
use Rattle.process.proofs.Theorem.{begins_decided, whole_decided}
use Rattle.record.specs.Bits.{change}
use Rattle.record.specs.Bytes.{byte_of}
use Rattle.record.specs.Blank.{blank_record}
use Rattle.record.proofs.Bytes.{byte_at}
use Rattle.book.specs.Marked.{cleared, marked_all, record_after}
use Rattle.starred.specs.Starred.{Line, whole, part, refused, byte, Drawing, table, ours, Says, Worked}
use Rattle.starred.proofs.Trees.{tree}

-- Two functions that agree on a list agree on each of its members.
same_at : {A B : Type 0} (f g : A → B) {x : A} {xs : List A} → Memᴰ x xs → map f xs ≡ map g xs → f x ≡ g x
same_at f g (Memᴰ.head e) q = ap f e ∙ (head-eq_of_cons-eq q ∙ sym (ap g e))
same_at f g (Memᴰ.tail m) q = same_at f g m (tail-eq_of_cons-eq q)

-- ---- a line
-- Its test, the first byte of the record being that of its first word.
abbrev test : Flow → Line → Bool
test d (whole w) = whole? (expand d) w
test d (part w) = begins? (expand d) w && not (whole? (expand d) w)
test d (refused w e) = begins? (expand d) w && not (begins? (expand d) (w ++ (e ∷ [])))
test d (byte w b) = begins? (expand d) w && eqb (byte_of (record_after d w).bits 0) b

-- What a line says of a diagram that keeps the rules is so if its test comes out true.
module _ (d : Flow) (k : Keeps d) where
  begins_and : (w : List ℕ) (b : Bool) → (begins? (expand d) w && b) ≡ true → Begins (expand d) w × (b ≡ true)
  begins_and w b h = ((begins_decided d k w).0 (and_l (begins? (expand d) w) b h), and_r (begins? (expand d) w) b h)

  line_holds : (l : Line) → test d l ≡ true → Says d l
  line_holds (whole w) h = (whole_decided d k w).0 h
  line_holds (part w) h =
      let (b, n) = begins_and w (not (whole? (expand d) w)) h in
      (b, λ a. clash ((whole_decided d k w).1 a) (not_e (whole? (expand d) w) n))
  line_holds (refused w e) h =
      let v = w ++ (e ∷ []) in
      let (b, n) = begins_and w (not (begins? (expand d) v)) h in
      (b, λ a. clash ((begins_decided d k v).1 a) (not_e (begins? (expand d) v) n))
  line_holds (byte w v) h =
      let first = byte_of (record_after d w).bits 0 in
      let (b, n) = begins_and w (eqb first v) h in
      (b, byte_at (record_after d w).bits 64 0 (lit< tt) ∙ eqb-true first v n)

-- ---- a drawing
abbrev diagram : Drawing → Flow
diagram x = tree (text_tokens keywords (bytes x.text))

-- The tokens of its text are those of the diagram, whose names are names and which keeps the rules beyond grammar; both are within the limits; and each line's test comes
-- out true.
abbrev found : Drawing → List Token × List Bool
found x =
    let d = diagram x in (
      text_tokens keywords (bytes x.text),
      flow_named keywords d ∷ keeps? d ∷ leb (length (bytes x.text)) 16384 ∷ leb (flow_nodes d) 256 ∷ leb (flow_depth d) 12 ∷ leb (flow_copies d) 768
          ∷ leb (flow_events d) 512 ∷ map (test d) x.lines,
    )

abbrev wanted : Drawing → List Token × List Bool
wanted x = (flow_tokens (diagram x) [], true ∷ true ∷ true ∷ true ∷ true ∷ true ∷ true ∷ map (λ (l : Line). true) x.lines)

found_as_wanted : map found (table ++ ours) ≡ map wanted (table ++ ours)
unfolding class_of stretch front keywords width spans spans_of named word_token token_of text_tokens flow_tokens flow_named flow_sized flow_names flow_parameters each_flow flow_nodes flow_depth flow_copies flow_events flow_process owns clears begun complete enabled change blank_record cleared marked_all
found_as_wanted = refl

pub starred : Worked (table ++ ours)
starred x m =
    let d = diagram x in
    let q = same_at found wanted m found_as_wanted in
    let t : (found x).1 ≡ (wanted x).1 = ap (λ (p : List Token × List Bool). p.1) q in
    let k : Keeps d = (keeps_decided d).0 (cc) in (
      d,
      record {
        short = leb-true (length (bytes x.text)) 16384 (cc);
        derived = record { proper = record { names = cc; sizes = k.sizes }; tokens = ap (λ (p : List Token × List Bool). p.0) q };
        keeps = k;
        nodes = leb-true (flow_nodes d) 256 (cc);
        depth = leb-true (flow_depth d) 12 (cc);
        copies = leb-true (flow_copies d) 768 (cc);
        events = leb-true (flow_events d) 512 (cc);
      },
      λ l i. line_holds d k l (same_at (test d) (λ (l : Line). true) i (cc)),
    )
