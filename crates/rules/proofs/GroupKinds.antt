-- What is asked of the kinds of a group and of a replicator is the same for each way to join parts.
use mathlib.Core.Path.{◌≡◌, refl}
use mathlib.Core.Bool.{true, false}
use Prim.Native.Nat.{ℕ}
use Rattle.diagram.specs.Tree.{Way}
use Rattle.diagram.specs.TreeNodes.{flowing, copying, titled, group_kind, replicator_kind}
use Rattle.diagram.proofs.Ways.{by_way}

pub group_copies : (y : Way) → copying (group_kind y) ≡ false
group_copies = by_way (λ y. copying (group_kind y)) (λ y. false) refl refl refl

pub replicator_copies : (y : Way) (size : ℕ) → copying (replicator_kind y size) ≡ true
replicator_copies y size = by_way (λ y. copying (replicator_kind y size)) (λ y. true) refl refl refl y

pub group_flows : (y : Way) → flowing (group_kind y) ≡ false
group_flows = by_way (λ y. flowing (group_kind y)) (λ y. false) refl refl refl

pub replicator_flows : (y : Way) (size : ℕ) → flowing (replicator_kind y size) ≡ false
replicator_flows y size = by_way (λ y. flowing (replicator_kind y size)) (λ y. false) refl refl refl y

pub group_titled : (y : Way) → titled (group_kind y) ≡ false
group_titled = by_way (λ y. titled (group_kind y)) (λ y. false) refl refl refl

pub replicator_titled : (y : Way) (size : ℕ) → titled (replicator_kind y size) ≡ false
replicator_titled y size = by_way (λ y. titled (replicator_kind y size)) (λ y. false) refl refl refl y
