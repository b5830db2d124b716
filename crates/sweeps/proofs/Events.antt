-- Whether a node is an event, by its row and the next one. Assumes nothing.
use Rattle.std.proofs.Common.{◌≡◌, ℕ, ◌+◌, ◌≤◌, ◌<◌, Bool, true, false, ◌&&◌, ◌||◌, cond, List, drop, sym, ◌∙◌}
use Rattle.diagram.specs.TreeNodes.{flowing, leafy, looping}
use Rattle.diagram.specs.declared.Kind.{Kind}
use Rattle.rules.specs.Counted.{over_flow, eventful}
use Rattle.walked.specs.Rows.{row_of}
use Rattle.walked.specs.declared.Row.{Row}
use Rattle.names.specs.code.Told.{node, Told}
use Rattle.names.proofs.Numbered.{from_here, from_past}

module _ {text : List ℕ} {rows : List Row} {count i : ℕ} (t : Told text rows count) (h : i < count) (n : ℕ) {k : Kind} (p : k ≡ (row_of rows i).node.kind) where
  abbrev events : ℕ
  events = cond (eventful (node t.hs i) (drop (i + 1) t.hs)) n 0

  by_kind : events ≡ cond (leafy k || (looping k && over_flow (drop (i + 1) t.hs))) n 0
  by_kind = rw (p, (t.row i h).kind)

  pub event_leaf : leafy k ≡ true → n ≡ events
  event_leaf e = sym (by_kind ∙ rw e)

  module _ (no : leafy k ≡ false) where
    pub event_other : looping k ≡ false → 0 ≡ events
    event_other e = sym (by_kind ∙ rw (no, e))

    module _ (loop : looping k ≡ true) where
      over : (b : Bool) → over_flow (drop (i + 1) t.hs) ≡ b → events ≡ cond b n 0
      over b e = by_kind ∙ rw (no, loop, e)

      pub event_last : count ≤ i + 1 → 0 ≡ events
      event_last l = sym (over false (rw (from_past t.hs (i + 1) (rw t.many l))))

      module _ (l : i + 1 < count) {x : Kind} (q : x ≡ (row_of rows (i + 1)).node.kind) where
        pub event_next : {b : Bool} → b ≡ flowing x → cond b n 0 ≡ events
        event_next {b} e = sym (over b (rw (e, from_here t.hs (i + 1) (rw t.many l), q, (t.row (i + 1) l).kind)))
