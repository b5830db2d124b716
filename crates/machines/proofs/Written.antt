-- The text of an event, and the opening of a machine, as they are written one part after the other.
use mathlib.Core.Path.{◌≡◌, sym, ap, subst, ◌∙◌}
use mathlib.Core.Bool.{Bool, true, false}
use mathlib.Core.List.{List, [], ◌∷◌, ◌++◌, map, append_assoc, cons≢nil, head-eq_of_cons-eq}
use Prim.Native.Nat.{ℕ, zero, suc, ◌+◌, ◌-◌, ◌≤◌, ◌<◌}
use native.Mathlib.Omega.{arith}
use lib.ListN.{length, get_or, take}
use Rattle.base.specs.Text.{bytes}
use Rattle.diagram.specs.Tree.{Name, Flow, flow}
use Rattle.diagram.specs.Count.{flow_events}
use Rattle.diagram.specs.TreeNodes.{ShownNode, shown_as, shown, nodes_by, flow_tree_nodes}
use Rattle.diagram.specs.declared.Kind.TheVariants.{Flow as FlowNode}
use Rattle.diagram.specs.declared.Node.{Node}
use Rattle.diagram.specs.declared.Diagram.{Diagram}
use Rattle.process.specs.Process.{Process, owns}
use Rattle.tokens.specs.Words.{word_at}
use Rattle.reading.specs.Shows.{shown_node, shown_nodes}
use Rattle.process.specs.Expand.{expand, flow_name}
use Rattle.process.proofs.Events.{expand_events}
use Rattle.postfix.specs.Postfix.{postfix}
use Rattle.postfix.specs.declared.Code.{Code}
use Rattle.postfix.proofs.Short.{postfix_short}
use Rattle.output.specs.Writes.{Writes}
use Rattle.output.specs.declared.Writer.{Writer}
use Rattle.output.proofs.Writes.{both}
use Rattle.translator.proofs.Tables.{its_numbers, its_size, codes, numbers_are}
use Rattle.formulas.specs.Actions.{becomes, actions}
use Rattle.formulas.specs.Conditions.{conditions}
use Rattle.formulas.specs.Lines.{guard_lines, action_lines, event_lines}
use Rattle.formulas.specs.Opening.{cleared_all, opening_lines}
use Rattle.formulas.proofs.Spoken.{conditions_speak, actions_below, same_text, same_opening}
use Rattle.variables.specs.code.Spelled.{spelled}
use Rattle.variables.specs.declared.Variable.{Variable}
use Rattle.guarding.specs.code.Asked.{Fits, Guarded}
use Rattle.profile.specs.code.Profiles.{Names}
use Rattle.modelling.specs.Texts.{naming, guards_of, actions_of, event_text, opening_text}
use Rattle.modelling.proofs.Profile.{few_events}
use Rattle.machines.specs.code.Drawn.{head, Drawn}
use Rattle.machines.proofs.Cleared.{from_most, its_actions}
use Rattle.machines.proofs.Drawn.{its_shown, spelled_names}

module _ (text : List ℕ) (g : Diagram) (k : Drawn text g) (v : List Variable) (named : Names g v) where
  -- Head, guards, `then`, actions and `end` are the text of the event.
  all_lines : (e : ℕ) (guards acts : List ℕ) → head (spelled text v) e ++ (guards ++ (bytes "then\n" ++ (acts ++ bytes "end\n")))
      ≡ bytes "event " ++ (spelled text v e ++ (bytes "\nwhere\n" ++ (guards ++ (bytes "then\n" ++ (acts ++ bytes "end\n")))))
  all_lines e guards acts = simp append_assoc

  -- The text by where the names stand is the text of the diagram.
  its_text : (e : ℕ) → e < flow_events k.tree
      → event_lines (spelled text v) e (conditions (expand k.tree) e) (actions (expand k.tree) (flow_events k.tree) e) ≡ event_text k.tree e
  unfolding event_text guards_of actions_of
  its_text e l =
      same_text (spelled text v) (naming k.tree) (flow_events k.tree) (spelled_names text g k v named) e l
      (conditions (expand k.tree) e)
      (conditions_speak (expand k.tree) 0 (flow_events k.tree) (its_numbers text k.tree k.accepted) (omega (arith, its_size text k.tree k.accepted)) e)
      (actions (expand k.tree) (flow_events k.tree) e) (actions_below (expand k.tree) (flow_events k.tree) e l)

  module _ (n : ℕ) (ops : List Code) (count_is : n ≡ (codes g).walk.count) (ops_are : ops ≡ (codes g).codes) (e : ℕ) (l : e < flow_events k.tree) where
    numbers : take n ops ≡ postfix (expand k.tree)
    numbers = rw (count_is, ops_are) (numbers_are text k.tree k.accepted g (its_shown text g k))

    short : length (take n ops) ≤ 64
    short = rw numbers (omega (arith, postfix_short (expand k.tree), its_size text k.tree k.accepted, few_events k.tree k.profile))

    its_fits : Fits (expand k.tree) (take n ops) 0
    its_fits = record { numbered = its_numbers text k.tree k.accepted; few = omega (arith, short) }

    owned : owns (expand k.tree) e ≡ true
    owned = (expand_events k.tree k.accepted.keeps.sizes e).1 l

    pub event_written : (w a b c d u : Writer) (from : ℕ)
        → Writes w a (head (spelled text v) e)
        → ((p : Process) → take n ops ≡ postfix p → Fits p (take n ops) 0 → owns p e ≡ true → 1 + length (take n ops) ≤ 1024 → Guarded (spelled text v) 1 p e a b from)
        → Writes b c (bytes "then\n")
        → (e ≤ 512 → from ≤ e → Writes c d (action_lines (spelled text v) 1 (becomes e true ∷ cleared_all from (e - from))))
        → Writes d u (bytes "end\n")
        → Writes w u (event_text k.tree e)
    unfolding event_lines
    event_written w a b c d u from h1 h2 h3 h4 h5 =
        let p = expand k.tree in
        let m = its_numbers text k.tree k.accepted in
        let few = few_events k.tree k.profile in
        let guarded = h2 p numbers its_fits owned (omega (arith, short)) in
        let most = from_most e p 0 m owned in
        let same : action_lines (spelled text v) 1 (becomes e true ∷ cleared_all from (e - from)) ≡ action_lines (spelled text v) 1 (actions p (flow_events k.tree) e) =
        ap (λ (f : ℕ). action_lines (spelled text v) 1 (becomes e true ∷ cleared_all f (e - f))) guarded.its_clears
        ∙ ap (action_lines (spelled text v) 1) (its_actions p (flow_events k.tree) e m owned (omega arith)) in
        let acts : Writes c d (action_lines (spelled text v) 1 (actions p (flow_events k.tree) e)) =
        rw (← same) (h4 (omega arith) (omega (arith, guarded.its_clears, most))) in
        subst (Writes w u)
        (all_lines e (guard_lines (spelled text v) 1 (conditions p e)) (action_lines (spelled text v) 1 (actions p (flow_events k.tree) e)) ∙ its_text e l)
        (both w a u _ _ h1 (both a b u _ _ guarded.its_lines (both b c u _ _ h3 (both c d u _ _ acts h5))))

  -- The root is the first node.
  first_named : (ns : List Node) (count : ℕ) (z : Node) (b sw : Bool) (depth : ℕ) (n : Name) (more : List ShownNode)
      → map (shown_node text) (take count ns) ≡ shown_as FlowNode b sw depth n ∷ more → word_at text (get_or ns 0 z).name ≡ n
  unfolding shown_node
  first_named [] zero z b sw depth n more h = absurd (cons≢nil (sym h))
  first_named [] (suc count) z b sw depth n more h = absurd (cons≢nil (sym h))
  first_named (x ∷ ns) zero z b sw depth n more h = absurd (cons≢nil (sym h))
  first_named (x ∷ ns) (suc count) z b sw depth n more h =
      let q = head-eq_of_cons-eq h in
      rw (ap (λ (t : ShownNode). t.kind) q) at (ap (λ (t : ShownNode). t.name) q)

  root_name : (z : Node) (d : Flow) → shown_nodes text g ≡ nodes_by shown d → word_at text (get_or g.nodes 0 z).name ≡ flow_name d
  unfolding shown_nodes flow_tree_nodes
  root_name z (flow n ps sw c r cs) h = first_named g.nodes g.count z false sw 1 n _ h

  pub opening_written : (w u : Writer) (z : Node)
      → (g.events ≤ 512 → Writes w u (opening_lines (spelled text v) (word_at text (get_or g.nodes 0 z).name) g.events))
      → Writes w u (opening_text k.tree)
  unfolding opening_text
  opening_written w u z h =
      let s = its_shown text g k in
      let few = few_events k.tree k.profile in
      subst (Writes w u)
      (rw (s.events, root_name z k.tree s.nodes) (same_opening (spelled text v) (naming k.tree) (flow_events k.tree) (spelled_names text g k v named) (flow_name k.tree)))
      (h (omega (arith, s.events)))
