-- What a row says where it is another.
use Rattle.std.proofs.Common.{◌≡◌, ap}
use Rattle.walked.specs.declared.Row.{Row}

module _ {r s : Row} (e : r ≡ s) where
  pub its_kind : r.node.kind ≡ s.node.kind
  its_kind = ap (λ (x : Row). x.node.kind) e

  pub its_place : r.node.at ≡ s.node.at
  its_place = ap (λ (x : Row). x.node.at) e

  pub its_name : r.node.name ≡ s.node.name
  its_name = ap (λ (x : Row). x.node.name) e

  pub its_end : r.past ≡ s.past
  its_end = ap (λ (x : Row). x.past) e

  pub its_depth : r.node.depth ≡ s.node.depth
  its_depth = ap (λ (x : Row). x.node.depth) e

  pub its_solid : r.node.solid ≡ s.node.solid
  its_solid = ap (λ (x : Row). x.node.solid) e

  pub its_strong : r.node.strong ≡ s.node.strong
  its_strong = ap (λ (x : Row). x.node.strong) e
