-- `sweeps::verdict` meets its contract: rule by rule.
use Rattle.base.specs.declared.Reason.TheVariants as Reason
use Rattle.std.proofs.Common.{◌∙◌}
use Rattle.names.proofs.Its.{its_name, its_place}
use Rattle.sweeps.proofs.Ruled.{as_told, refused_name, refused_key, by_7, by_8, by_9, by_10}
use Rattle.sweeps.proofs.verdict.Goals as goal

pub returns-in-Some : goal.returns-in-Some
returns-in-Some c = as_told (λ t.
    let a = c.in-Some.ensures in
    by_7 _ t.hs (refused_name t (a.value t) a.within.0 _ c.at.ensures (c.name.ensures ∙ its_name c.row.ensures) a.within.1))

pub returns-in-Some-unlisted : goal.returns-in-Some-unlisted
returns-in-Some-unlisted c = as_told (λ t.
    let a = c.in-Some-unlisted.ensures in
    by_8 _ t.hs (c.in_default.ensures.value t)
    (refused_key t (a.value t) a.within _ Reason.Parameter c.at-in-Some-unlisted.ensures (c.place.ensures ∙ its_place c.row-in-Some-unlisted.ensures)))

pub returns-in-Some-unsolid : goal.returns-in-Some-unsolid
returns-in-Some-unsolid c = as_told (λ t.
    let a = c.in-Some-unsolid.ensures in
    by_9 _ t.hs (c.in_default.ensures.value t) (c.in_default-unlisted.ensures.value t)
    (refused_key t (a.value t) a.within _ Reason.Solid c.at-in-Some-unsolid.ensures (c.place-in-Some-unsolid.ensures ∙ its_place c.row-in-Some-unsolid.ensures)))

pub returns : goal.returns
returns c = as_told (λ t.
    by_10 _ t.hs (c.in_default.ensures.value t) (c.in_default-unlisted.ensures.value t) (c.in_default-unsolid.ensures.value t) (c.counts.ensures t))
