-- The body of a loop over a flow, and what its reset clears. Document 01, "The run record and the table": "A reset also clears the bits
-- of all events in its loop's body."
use Rattle.std.specs.Prelude.{◌≡◌, ◌⊎◌, ◌↔◌, true, false, ℕ, ◌≤◌, ◌<◌}
use Rattle.process.specs.Process.{Process, event, join, again, rounds, owns, event_of}
use Rattle.process.specs.Bits.{clears}

-- The first event of a process: the leftmost, as numbers rise from the left to the right.
unfoldable pub first : Process → ℕ
first (event n l) = n
first (join j p q) = first p
first (again n l) = n
first (rounds p r l) = first p

-- `b` is the body of the loop over a flow whose reset is `x`.
unfoldable pub Body : Process → ℕ → Process → Type 0
Body (event n l) x b = ⊥
Body (join j p q) x b = Body p x b ⊎ Body q x b
Body (again n l) x b = ⊥
Body (rounds p r l) x b = ((r ≡ x) × (p ≡ b)) ⊎ Body p x b

-- What taking the event `x` of a process clears: a leaf copy clears nothing; a reset clears exactly the events of its loop's body, and
-- these are the ones from the body's first event up to the reset.
abbrev pub Effect : Process → ℕ → Type 0
Effect p x =
    (((event_of p x).reset ≡ false) × ((i : ℕ) → clears p x i ≡ false))
    ⊎ (((event_of p x).reset ≡ true) × (b : Process) × Body p x b × (first b < x) × ((i : ℕ) → clears p x i ≡ owns b i)
    × ((i : ℕ) → (clears p x i ≡ true) ↔ ((first b ≤ i) × (i < x))))
