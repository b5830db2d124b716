-- `base::number` meets its contract: byte by byte, each below 256; past the end there are only zeros.
use Rattle.std.proofs.Common.{ℕ, suc, ◌+◌, ◌*◌, ◌^◌, ◌<◌, ◌≤◌, arith, Fits, w8, get_or, List, ◌∙◌, ◌≡◌, refl, subst, sym, add-one, rules, min}
use Rattle.std.proofs.Math.Nat.{pow-le-pow_right, pow-suc}
use Rattle.base.proofs.Fields.{field_past, field_more, field_below, field_none}
use Rattle.base.specs.Packed.{field}
use Rattle.base.proofs.number.Goals as goal

-- One byte more still fits 64 bits.
fits_more : (k n v b : ℕ) → v < 256 ^ k → k < n → n ≤ 8 → b < 256 → v * 256 + b < 2 ^ 64
fits_more k n v b h l m c =
    let p : 256 ^ suc k ≤ 256 ^ 8 = pow-le-pow_right {n = 256} (omega arith) {i = suc k} {j = 8} (omega (arith, l, m)) in
    let q : 256 ^ suc k ≡ 256 ^ k * 256 = pow-suc 256 k in
    let r : 256 ^ 8 ≡ 2 ^ 64 = refl in
    omega (arith, p, q, r, h, c)

below : (k : ℕ) (s : List ℕ) (at v : ℕ) → ((i : ℕ) → Fits w8 (get_or s i 0)) → v ≡ field k s at → v < 256 ^ k
below k s at v h e = subst (λ (n : ℕ). n < 256 ^ k) (sym e) (field_below k s at (λ i. search (rules, h i)))

pub returns-then-bytes-i : goal.returns-then-bytes-i
returns-then-bytes-i g c =
    let z = field_past (min g.row.N 8) _ _ c.if-bytes-i.true in
    (z, below (min g.row.N 8) c.args.bytes.now c.args.i 0 c.type_inv.bytes z)

pub loop-k-init : goal.loop-k-init
loop-k-init g c = field_none _ _

pub overflow_mul-value : goal.overflow_mul-value
overflow_mul-value g c =
    let b = below c.loop-k.k c.args.bytes.now c.args.i _ c.type_inv.bytes c.loop-k.invariant in
    omega (arith, fits_more c.loop-k.k _ _ 0 b c.loop-k-test.true (omega (arith, c.min-k-end.ensures)) (omega arith))

pub overflow_add-value : goal.overflow_add-value
overflow_add-value g c =
    let b = below c.loop-k.k c.args.bytes.now c.args.i _ c.type_inv.bytes c.loop-k.invariant in
    let f = fits_more c.loop-k.k c.min-k-end.result c.loop-k.value c.from.result b c.loop-k-test.true (omega (arith, c.min-k-end.ensures)) (rw c.from.ensures c.at.type_inv) in
    search (rules, f)

pub loop-k-preserved : goal.loop-k-preserved
loop-k-preserved g c =
    rw (add-one c.loop-k.k) (field_more c.loop-k.k _ _ _ _ c.loop-k.invariant (c.from.ensures ∙ c.at.ensures))

pub returns : goal.returns
returns g c =
    let n : c.loop-k.k ≡ min g.row.N 8 = omega (arith, c.loop-k.auto.k-end, c.loop-k-test.false, c.min-k-end.ensures) in
    let v = subst (λ (k : ℕ). c.loop-k.value ≡ field k c.args.bytes.now c.args.i) n c.loop-k.invariant in
    (v, below (min g.row.N 8) c.args.bytes.now c.args.i _ c.type_inv.bytes v)
