-- Property 2, from the contracts of read and print.
use mathlib.Core.Path.{◌≡◌, sym, ap, ◌∙◌}
use mathlib.Core.Logic.{◌↔◌}
use mathlib.Core.Bool.{false}
use mathlib.Core.List.{List}
use Prim.Native.Nat.{ℕ}
use Rattle.std.specs.Prelude.{Ok}
use Rattle.base.specs.Reports.{Written}
use Rattle.diagram.specs.Tree.{Flow}
use Rattle.diagram.specs.declared.Diagram.{Diagram}
use Rattle.reading.specs.Answers.{Read, read_of}
use Rattle.reading.specs.Accepted.{Accepted}
use Rattle.reading.specs.Shows.{Shows}
use Rattle.reading.specs.Blanked.{blanked}
use Rattle.reading.proofs.Exact as exact
use Rattle.reading.proofs.Alike.{remarks_as_blanks}
use Rattle.reading.proofs.Shown.{accepted_shows_only, shows_only}
use Rattle.reading.proofs.Placed.{read_placed}
use Rattle.printer.specs.Same.{Same, unplaced, wrote, written}
use Rattle.printer.proofs.Same.{same_diagram, print_then_read, left_alike}
use Rattle.properties.specs.Calls.{Reads}
use Rattle.properties.specs.Two.{Printing, Again, Property2}
use Rattle.properties.proofs.Kept.{reads_met, prints_met}

-- The bytes that the call wrote are those of the definitions.
wrote_is : (text : List ℕ) (d : Flow) (p : Written) (left : List ℕ) (k : Printing text d p left) → written p left ≡ wrote text k.lent
wrote_is text d p left k = let (x, y) = prints_met text k.lent p left k.printing in rw (x, y)

again : (text : List ℕ) (d : Flow) (p : Written) (left : List ℕ) → Printing text d p left
    → (o q : Read) → Reads text o → Reads (written p left) q → Again text d p left o q
again text d p left k o q m n =
    let a = print_then_read text k.lent d k.enough k.accepted in
    let w = wrote_is text d p left k in
    let (x, y) = prints_met text k.lent p left k.printing in
    let r = reads_met text o m in
    let s = reads_met (written p left) q n in
    record {
      reported = rw (w, x) a.reported;
      first = a.first;
      second = a.second;
      read = r ∙ a.read;
      done = s ∙ rw w a.done;
      same = rw w a.same;
      shows = a.shows;
      shows_again = rw w a.shows_again;
    }

-- Diagrams that are the same, places aside, show the same tree.
same_shown : (s t : List ℕ) (e : Flow) (g h : Diagram) → Same s g t h → Shows t e h → Shows s e g
unfolding unplaced
same_shown s t e g h m k = record {
  nodes = m.names ∙ k.nodes;
  count = ap (λ (x : Diagram). x.count) m.nodes ∙ k.count;
  copies = ap (λ (x : Diagram). x.copies) m.nodes ∙ k.copies;
  events = ap (λ (x : Diagram). x.events) m.nodes ∙ k.events;
}

same_tree : (s t : List ℕ) (d e : Flow) → Accepted s d → Accepted t e → (g h : Diagram) → read_of s ≡ Ok g → read_of t ≡ Ok h → Same s g t h ↔ (d ≡ e)
same_tree s t d e a b g h q r = (
  λ m. sym ((shows_only s d a q).no_other e b.keeps.parameters (same_shown s t e g h m (shows_only t e b r).this)),
  λ z. same_diagram s t d a (rw z b) q r,
)

pub property_2 : Property2
property_2 = record {
  accepted_exactly = λ text o m. rw (reads_met text o m) (exact.accepted_exactly text);
  refused_exactly = λ text o m number place. rw (reads_met text o m) (exact.refused_exactly text number place);
  the_one_derived = λ text o m d a.
      let (g, q, k) = accepted_shows_only text d a in
      (g, reads_met text o m ∙ q, k, read_placed text d a q);
  read_again = again;
  print_alike = λ s t d e p q left other k l.
      rw (wrote_is s d p left k, wrote_is t e q other l) (left_alike s k.lent d t l.lent e k.enough l.enough k.accepted l.accepted).exactly;
  same_exactly = λ s t d e g h a b m n. same_tree s t d e a b g h (sym (reads_met s (Ok g) m)) (sym (reads_met t (Ok h) n));
  remarks_are_blanks = λ text o q u m n. reads_met (blanked false text) q n ∙ remarks_as_blanks text u ∙ sym (reads_met text o m);
}
