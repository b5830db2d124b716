-- Property 2, reading: which texts are read, with which diagram, and which are turned away, with which number and place.
use mathlib.Core.Path.{◌≡◌, refl, sym, ◌∙◌, ap, subst}
use mathlib.Core.Logic.{◌⊎◌, inl, inr, ⊎_elim, ◌↔◌}
use mathlib.Core.Bool.{Bool, true, false, true≢false}
use mathlib.Core.List.{List, [], ◌++◌, cons≢nil}
use Prim.Native.Nat.{ℕ, suc, ◌≤◌, ◌<◌}
use native.Mathlib.Omega.{arith}
use lib.Dec.{ltb}
use lib.ListN.{length, take, replicate}
use borrow.Author.Tests.{ltb-true, ltb-false}
use Rattle.std.specs.Prelude.{Option, Some, None, Result, Ok, Err}
use Rattle.base.specs.Refusals.{number, refusal}
use Rattle.base.specs.Reports.{Report, refusal as refusal_report}
use Rattle.base.specs.declared.Reason.{Reason}
use Rattle.base.specs.declared.Refusal.{Refusal}
use Rattle.diagram.specs.Tree.{Flow}
use Rattle.diagram.specs.Count.{flow_copies, flow_events}
use Rattle.diagram.specs.Names.{flow_names, differ}
use Rattle.diagram.specs.Parameters.{flow_parameters}
use Rattle.diagram.specs.Flows.{each_flow, solid, strong}
use Rattle.diagram.specs.TreeNodes.{TreeNode, own, nodes_by}
use Rattle.tokens.specs.Words.{keywords}
use Rattle.tokens.specs.Spans.{spans_of, tokens}
use Rattle.tokens.specs.Token.{Token, text_tokens, all_proper}
use Rattle.tokens.specs.Scanned.{scan_of}
use Rattle.tokens.proofs.Tokens.{text_proper, keywords_sound}
use Rattle.grammar.specs.Machine as Machine
use Rattle.grammar.specs.Machine.{outcome}
use Rattle.grammar.specs.Derives.{Derives}
use Rattle.grammar.specs.Keys.{keyword_at, name_at}
use Rattle.grammar.proofs.Limits.{over_limit}
use Rattle.grammar.proofs.Printing.{tokens_many}
use Rattle.grammar.proofs.Grammar.{Answered, read, strayed, outgrown, answered, off_viable, off_token, off_end, off_only, big_viable, shorter, derived_once}
use Rattle.grammar.proofs.LimitedFrom.{over_limit_begun}
use Rattle.grammar.proofs.Limited.{big_over_limit, off_none_big, whole_none_big}
use Rattle.walked.specs.Walk.{blank_row, End, whole, stop, ending, unwritten, placed_by}
use Rattle.walked.proofs.Located.{ends_as}
use Rattle.rules.specs.Broken.{too_big, first_broken}
use Rattle.rules.specs.Judged.{Verdict}
use Rattle.rules.proofs.LimitsPlaced.{limits_placed}
use Rattle.rules.proofs.NamesKept.{names_kept_iff}
use Rattle.rules.proofs.ParametersKept.{parameters_kept_iff}
use Rattle.rules.proofs.SolidsKept.{solids_kept_iff}
use Rattle.rules.proofs.StrongsKept.{strongs_kept_iff}
use Rattle.reading.specs.Nodes.{stored}
use Rattle.reading.specs.Answers.{judged, parsed, scanned, read_of}
use Rattle.reading.specs.Accepted.{Accepted}
use Rattle.reading.specs.Refused.{place_of, Clean, Off, Big, Derived, Breaks, RefusedAt, by_size, by_byte, by_word, by_token, by_limit, by_name, by_parameter, by_solid, by_strong, by_count}
use Rattle.diagram.specs.declared.Diagram.{Diagram}
use Rattle.reading.specs.Reports.{report}
use Rattle.base.proofs.Reports.{number_once}
use Rattle.reading.proofs.Scans.{scan_refused_at, scan_clean, long_scan, foreign_scan, wordy_scan, clean_scan}
use Rattle.reading.proofs.Verdicts.{twice, misplaced, unsolid, weak, tree_verdict, kept, counted_few, counted_many, few_or_many}
use Rattle.reading.proofs.Derived.{whole_derived, derived_answer}

-- The diagram that holds a tree at its places in a text.
abbrev pub held : List ℕ → Flow → Diagram
held text d = stored text (nodes_by own d) (flow_copies d) (flow_events d)

-- What reading a derived text answers, by the rules' verdict.
by_verdict : (text : List ℕ) (d : Flow) (v : Verdict) → Derived text d → tree_verdict text d ≡ v → read_of text ≡ judged text (nodes_by own d) v
by_verdict text d v g e = derived_answer text d g ∙ ap (judged text (nodes_by own d)) e

-- The texts that are read.
pub accepted_derived : (text : List ℕ) (d : Flow) → Accepted text d → Derived text d
accepted_derived text d a = record { size = a.short; derives = a.derived; nodes = a.nodes; depth = a.depth }

pub accepted_read : (text : List ℕ) (d : Flow) → Accepted text d → read_of text ≡ Ok (held text d)
accepted_read text d a =
    by_verdict text d (kept (flow_copies d) (flow_events d)) (accepted_derived text d a)
    (rw (
      (names_kept_iff d).1 a.keeps.names,
      (parameters_kept_iff d).1 a.keeps.parameters,
      (solids_kept_iff d).1 a.keeps.solids,
      (strongs_kept_iff d).1 a.keeps.strongs,
      counted_few (flow_copies d) (flow_events d) a.copies a.events,
    ))

-- The texts that are turned away.
pub scanned_as : (text : List ℕ) (s : Result ℕ Refusal) → scan_of text ≡ s → read_of text ≡ scanned text s
unfolding read_of
scanned_as text s e = ap (scanned text) e

-- Where the walk stops, so does reading.
parsed_stop : (text : List ℕ) (o : End) (c : Reason) (p : ℕ) → unwritten o ≡ Machine.stop c p → parsed text o ≡ Err (refusal c p)
parsed_stop text (whole n st) c p e = let z : ⊥ = cc in absurd z
parsed_stop text (stop a b) c p e = let x : a ≡ c = cc in let y : b ≡ p = cc in rw (x, y)

pub stopped : (text : List ℕ) (c : Reason) (k : ℕ) → Clean text → outcome (text_tokens keywords text) ≡ Machine.stop c k
    → read_of text ≡ Err (refusal c (place_of text k))
stopped text c k h e =
    scanned_as text (Ok (length (spans_of text))) (clean_scan text h)
    ∙ parsed_stop text (ending text (replicate 257 blank_row)) c (place_of text k) (ends_as text (replicate 257 blank_row) ∙ ap (placed_by (place_of text)) e)

-- Number 6 by the tokens and on a tree that derives the tokens before t with some rest.
limits_alike : (ts rest : List Token) (d : Flow) (t j : ℕ) → Derives keywords (take t ts ++ rest) d → t ≤ length ts → j < t → over_limit ts j ≡ too_big d j
limits_alike ts rest d t j g h l =
    over_limit_begun ts rest t j h l ∙ (ap (λ (us : List Token). over_limit us j) g.tokens ∙ limits_placed d j)

module _ (text : List ℕ) where
  abbrev ts : List Token
  ts = text_tokens keywords text

  many : length ts ≡ length (tokens text)
  many = tokens_many keywords text

  off_stops : (at : ℕ) (o : Off text at) → outcome ts ≡ Machine.stop Reason.Token o.token
  off_stops at o =
      ⊎_elim (λ r. absurd (true≢false (sym (big_over_limit ts r.0 r.1).1 ∙ small r.0 r.2))) (λ r. r)
      (off_only keywords keywords_sound ts (text_proper keywords text) o.token (o.tree, o.rest, o.before) (λ l. o.here (omega (arith, many)))
      (λ e. o.early (e ∙ many)) (omega (arith, many, o.inside)))
    where
      small : (j : ℕ) → j < o.token → over_limit ts j ≡ false
      small j l = limits_alike ts o.rest o.tree o.token j o.before (omega (arith, many, o.inside)) l ∙ o.small j l

  big_stops : (at : ℕ) (b : Big text at) → outcome ts ≡ Machine.stop Reason.Node b.token
  big_stops at b = go (answered keywords keywords_sound ts (text_proper keywords text))
    where
      alike : (j : ℕ) → j < suc b.token → over_limit ts j ≡ too_big b.tree j
      alike j l = limits_alike ts b.rest b.tree (suc b.token) j b.viable (omega (arith, many, b.inside)) l

      clash : {A : Type 0} → over_limit ts b.token ≡ false → A
      clash q = absurd (true≢false (sym (alike b.token (omega arith) ∙ b.here) ∙ q))

      strays : (k : ℕ) → outcome ts ≡ Machine.stop Reason.Token k → (x : Bool) → ltb b.token k ≡ x → outcome ts ≡ Machine.stop Reason.Node b.token
      strays k e true q = clash (off_none_big ts k e b.token (ltb-true b.token k q))
      strays k e false q =
          let l : k ≤ b.token = ltb-false b.token k q in
          absurd
          (off_token keywords keywords_sound ts (text_proper keywords text) k e (omega (arith, many, b.inside))
          (shorter keywords (suc k) (suc b.token) ts (omega arith) (b.tree, b.rest, b.viable)))

      meets : (k : ℕ) → outcome ts ≡ Machine.stop Reason.Node k → (x y : Bool) → ltb b.token k ≡ x → ltb k b.token ≡ y → outcome ts ≡ Machine.stop Reason.Node b.token
      meets k e true y p q = clash ((big_over_limit ts k e).2 b.token (ltb-true b.token k p))
      meets k e false true p q =
          let l = ltb-true k b.token q in
          absurd (true≢false (sym (big_over_limit ts k e).1 ∙ (alike k (omega arith) ∙ b.first k l)))
      meets k e false false p q =
          let z : k ≡ b.token = omega (arith, ltb-false b.token k p, ltb-false k b.token q) in
          e ∙ ap (Machine.stop Reason.Node) z

      go : Answered ts → outcome ts ≡ Machine.stop Reason.Node b.token
      go (read n e) = clash ((whole_none_big ts n e).1 b.token)
      go (strayed k e) = strays k e (ltb b.token k) refl
      go (outgrown k e) = meets k e (ltb b.token k) (ltb k b.token) refl refl

-- A number and a place as a refusal that reading answers.
pub record TurnedAway (text : List ℕ) (c at : ℕ) : Type 0 where
  pub reason : Reason
  pub its_number : number reason ≡ c
  pub answer : read_of text ≡ Err (refusal reason at)

turned_away : (text : List ℕ) {c at : ℕ} (r : Reason) (p : ℕ) → c ≡ number r → at ≡ p → read_of text ≡ Err (refusal r p) → TurnedAway text c at
turned_away text r p e q a = record { reason = r; its_number = sym e; answer = rw q a }

broken_read : (text : List ℕ) (c at : ℕ) (r : Reason) (d : Flow) {fit : TreeNode → Bool} (b : Breaks text at d fit) → c ≡ number r
    → tree_verdict text d ≡ Err (refusal r (keyword_at text b.node)) → TurnedAway text c at
broken_read text c at r d b e v =
    let k = keyword_at text b.node in turned_away text r k e b.place (by_verdict text d (Err (refusal r k)) b.derived v)

pub refused_at_read : (text : List ℕ) (c at : ℕ) → RefusedAt text c at → TurnedAway text c at
refused_at_read text c at (by_size e h) =
    turned_away text Reason.Text at e refl (scanned_as text (Err (refusal Reason.Text at)) (long_scan text at h))
refused_at_read text c at (by_byte e h) =
    turned_away text Reason.Byte at e refl (scanned_as text (Err (refusal Reason.Byte at)) (foreign_scan text at h))
refused_at_read text c at (by_word e h) =
    turned_away text Reason.Word at e refl (scanned_as text (Err (refusal Reason.Word at)) (wordy_scan text at h))
refused_at_read text c at (by_token e h) =
    turned_away text Reason.Token (place_of text h.token) e h.place (stopped text Reason.Token h.token h.clean (off_stops text at h))
refused_at_read text c at (by_limit e h) =
    turned_away text Reason.Node (place_of text h.token) e h.place (stopped text Reason.Node h.token h.clean (big_stops text at h))
refused_at_read text c at (by_name e d h) =
    let p = name_at text h.node in
    turned_away text Reason.Name p e h.place (by_verdict text d (Err (refusal Reason.Name p)) h.derived (rw h.here))
refused_at_read text c at (by_parameter e d h) =
    broken_read text c at Reason.Parameter d h.broken e (rw ((names_kept_iff d).1 h.names, h.broken.here))
refused_at_read text c at (by_solid e d h) =
    broken_read text c at Reason.Solid d h.broken e
    (rw ((names_kept_iff d).1 h.names, (parameters_kept_iff d).1 h.parameters, h.broken.here))
refused_at_read text c at (by_strong e d h) =
    broken_read text c at Reason.Weak d h.broken e
    (rw ((names_kept_iff d).1 h.names, (parameters_kept_iff d).1 h.parameters, (solids_kept_iff d).1 h.solids, h.broken.here))
refused_at_read text c at (by_count e d h) =
    turned_away text Reason.Count 0 e h.place
    (by_verdict text d (Err (refusal Reason.Count 0)) h.derived
    (rw (
      (names_kept_iff d).1 h.names,
      (parameters_kept_iff d).1 h.parameters,
      (solids_kept_iff d).1 h.solids,
      (strongs_kept_iff d).1 h.strongs,
      counted_many (flow_copies d) (flow_events d) h.over,
    )))

-- Every text is read with a diagram, or turned away for one reason at one place.
pub data Fate (text : List ℕ) : Type 0 where
  taken : (d : Flow) → Accepted text d → Fate text
  refused_at : (reason : Reason) (at : ℕ) → RefusedAt text (number reason) at → Fate text

-- The rules, one after the other, where a diagram within the limits derives the text.
derived_fate : (text : List ℕ) (d : Flow) → Derived text d → Fate text
derived_fate text d g = names (twice d) refl
  where
    broken : {fit : TreeNode → Bool} (k : ℕ) → first_broken fit (nodes_by (λ h. h) d) ≡ Some k → Breaks text (keyword_at text k) d fit
    broken k e = record { derived = g; node = k; here = e; place = refl }

    counts : differ (flow_names d []) ≡ true → flow_parameters d [] ≡ true → each_flow d solid ≡ true → each_flow d strong ≡ true
        → ((flow_copies d ≤ 768) × (flow_events d ≤ 512)) ⊎ ((768 < flow_copies d) ⊎ (512 < flow_events d)) → Fate text
    counts a b c e (inl q) =
        taken d
        record {
          short = g.size;
          derived = g.derives;
          keeps = record { sizes = g.derives.proper.sizes; names = a; parameters = b; solids = c; strongs = e };
          nodes = g.nodes;
          depth = g.depth;
          copies = q.0;
          events = q.1;
        }
    counts a b c e (inr q) =
        refused_at Reason.Count 0 (by_count refl d record { derived = g; names = a; parameters = b; solids = c; strongs = e; over = q; place = refl })

    strongs : differ (flow_names d []) ≡ true → flow_parameters d [] ≡ true → each_flow d solid ≡ true → (f : Option ℕ) → weak d ≡ f → Fate text
    strongs a b c (Some k) e =
        refused_at Reason.Weak (keyword_at text k) (by_strong refl d record { names = a; parameters = b; solids = c; broken = broken k e })
    strongs a b c None e = counts a b c ((strongs_kept_iff d).0 e) (few_or_many (flow_copies d) (flow_events d))

    solids : differ (flow_names d []) ≡ true → flow_parameters d [] ≡ true → (f : Option ℕ) → unsolid d ≡ f → Fate text
    solids a b (Some k) e = refused_at Reason.Solid (keyword_at text k) (by_solid refl d record { names = a; parameters = b; broken = broken k e })
    solids a b None e = strongs a b ((solids_kept_iff d).0 e) (weak d) refl

    parameters : differ (flow_names d []) ≡ true → (f : Option ℕ) → misplaced d ≡ f → Fate text
    parameters a (Some k) e = refused_at Reason.Parameter (keyword_at text k) (by_parameter refl d record { names = a; broken = broken k e })
    parameters a None e = solids a ((parameters_kept_iff d).0 e) (unsolid d) refl

    names : (f : Option ℕ) → twice d ≡ f → Fate text
    names (Some k) e = refused_at Reason.Name (name_at text k) (by_name refl d record { derived = g; node = k; here = e; place = refl })
    names None e = parameters ((names_kept_iff d).0 e) (misplaced d) refl

clean_fate : (text : List ℕ) → Clean text → Fate text
clean_fate text h = go (answered keywords keywords_sound (ts text) proper)
  where
    proper : all_proper keywords (ts text) ≡ true
    proper = text_proper keywords text

    go : Answered (ts text) → Fate text
    go (read n e) = let r = whole_derived text n h.size e in derived_fate text r.0 r.1
    go (strayed k e) =
        let v = off_viable keywords keywords_sound (ts text) proper k e in
        refused_at Reason.Token (place_of text k)
        (by_token refl
        record {
          clean = h;
          token = k;
          inside = omega (arith, many text, v.0);
          tree = v.1.0;
          rest = v.1.1;
          before = v.1.2;
          here = λ l. off_token keywords keywords_sound (ts text) proper k e (omega (arith, many text));
          early = λ q. off_end keywords keywords_sound (ts text) proper k e (q ∙ sym (many text));
          small = λ j l. sym (limits_alike (ts text) v.1.1 v.1.0 k j v.1.2 v.0 l) ∙ off_none_big (ts text) k e j l;
          place = refl;
        })
    go (outgrown k e) =
        let v = big_viable keywords keywords_sound (ts text) proper k e in
        let b = big_over_limit (ts text) k e in
        let alike : (j : ℕ) → j < suc k → too_big v.1.0 j ≡ over_limit (ts text) j =
        λ j l. sym (limits_alike (ts text) v.1.1 v.1.0 (suc k) j v.1.2 v.0 l) in
        refused_at Reason.Node (place_of text k)
        (by_limit refl
        record {
          clean = h;
          token = k;
          inside = omega (arith, many text, v.0);
          tree = v.1.0;
          rest = v.1.1;
          viable = v.1.2;
          here = alike k (omega arith) ∙ b.1;
          first = λ j l. alike j (omega arith) ∙ b.2 j l;
          place = refl;
        })

pub fate : (text : List ℕ) → Fate text
fate text = go (scan_of text) refl
  where
    go : (s : Result ℕ Refusal) → scan_of text ≡ s → Fate text
    go (Ok n) e = clean_fate text (scan_clean text n e)
    go (Err r) e =
        ⊎_elim (λ h. refused_at r.reason r.place (by_size (ap number h.0) h.1))
        (λ q. ⊎_elim (λ h. refused_at r.reason r.place (by_byte (ap number h.0) h.1)) (λ h. refused_at r.reason r.place (by_word (ap number h.0) h.1)) q)
        (scan_refused_at text r e)

pub done_refused : {A T E : Type 0} {g : T} {r : E} → ◌≡◌ {A = Result T E} (Ok g) (Err r) → A
done_refused e = let z : ⊥ = cc in absurd z

-- A diagram is no refusal, by what both report.
reported_done : {A : Type 0} (g : Diagram) (c at : ℕ) → report (Ok g) ≡ refusal_report c at → A
reported_done g c at e = absurd (cons≢nil (ap (λ (r : Report). r.values) e))

reported_once : (n p m q : ℕ) → refusal_report n p ≡ refusal_report m q → (n ≡ m) × (p ≡ q)
reported_once n p m q e = (ap (λ (r : Report). r.number) e, ap (λ (r : Report). r.place) e)

-- "A text is accepted exactly if the grammar with its rules and limits derives it."
pub accepted_exactly : (text : List ℕ) → ((g : Diagram) × (read_of text ≡ Ok g)) ↔ ((d : Flow) × Accepted text d)
accepted_exactly text = (λ r. go (fate text) r.0 r.1, λ a. (held text a.0, accepted_read text a.0 a.1))
  where
    go : Fate text → (g : Diagram) → read_of text ≡ Ok g → (d : Flow) × Accepted text d
    go (taken d a) g e = (d, a)
    go (refused_at c at t) g e = let r = refused_at_read text (number c) at t in done_refused (sym e ∙ r.answer)

-- The diagram that is answered for an accepted text.
pub its_diagram : (text : List ℕ) (d : Flow) → Accepted text d → {g : Diagram} → read_of text ≡ Ok g → g ≡ held text d
its_diagram text d a {g} e = let q : Ok g ≡ Ok (held text d) = sym e ∙ accepted_read text d a in cc

-- What is reported for a text that is turned away.
refused_reported : (text : List ℕ) (c at : ℕ) → RefusedAt text c at → report (read_of text) ≡ refusal_report c at
refused_reported text c at t = let r = refused_at_read text c at t in rw (r.answer, r.its_number)

-- A text is turned away with a number and a place exactly by the sentence of that number.
pub refused_exactly : (text : List ℕ) (c at : ℕ) → (report (read_of text) ≡ refusal_report c at) ↔ RefusedAt text c at
refused_exactly text c at = (λ e. go (fate text) e, refused_reported text c at)
  where
    go : Fate text → report (read_of text) ≡ refusal_report c at → RefusedAt text c at
    go (taken d a) e = reported_done (held text d) c at (sym (ap report (accepted_read text d a)) ∙ e)
    go (refused_at b p t) e =
        let q = reported_once (number b) p c at (sym (refused_reported text (number b) p t) ∙ e) in
        subst (λ (n : ℕ). RefusedAt text n at) q.0 (subst (λ (i : ℕ). RefusedAt text (number b) i) q.1 t)

-- The same for a reason.
pub turned_away_exactly : (text : List ℕ) (reason : Reason) (place : ℕ) → (read_of text ≡ Err (refusal reason place)) ↔ RefusedAt text (number reason) place
turned_away_exactly text reason place = (
  λ e. (refused_exactly text (number reason) place).0 (ap report e),
  λ t. let r = refused_at_read text (number reason) place t in r.answer ∙ ap (λ (c : Reason). Err (refusal c place)) (number_once r.reason reason r.its_number),
)

-- "its diagram is the one derived": there is no other.
pub accepted_once : (text : List ℕ) (d e : Flow) → Accepted text d → Accepted text e → d ≡ e
accepted_once text d e a b = derived_once keywords (text_tokens keywords text) d e a.derived b.derived

-- A text is turned away with one number at one place,
pub refused_at_once : (text : List ℕ) (n p m q : ℕ) → RefusedAt text n p → RefusedAt text m q → (n ≡ m) × (p ≡ q)
refused_at_once text n p m q a b =
    reported_once n p m q (sym (refused_reported text n p a) ∙ refused_reported text m q b)

-- for one reason,
pub one_reason : (text : List ℕ) (a b : Reason) (p q : ℕ) → RefusedAt text (number a) p → RefusedAt text (number b) q → (a ≡ b) × (p ≡ q)
one_reason text a b p q s t = let e = refused_at_once text (number a) p (number b) q s t in (number_once a b e.0, e.1)

-- and is not accepted then.
pub never_both : (text : List ℕ) (d : Flow) (n p : ℕ) → Accepted text d → RefusedAt text n p → ⊥
never_both text d n p a t = reported_done (held text d) n p (sym (ap report (accepted_read text d a)) ∙ refused_reported text n p t)
