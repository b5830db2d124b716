-- What `write_table` answers where there is room.
use Rattle.std.proofs.Common.{◌≡◌, true, List, ℕ, ◌≤◌, length, arith}
use borrow.Author.Tests.{le-leb}
use Rattle.base.proofs.Truth.{clash, and_i}
use Rattle.process.specs.Expand.{expand}
use Rattle.process.proofs.Events.{expand_laid}
use Rattle.postfix.specs.declared.Code.{Code}
use Rattle.guards.specs.Table.{room, TableWritten}
use Rattle.guards.specs.code.Passes.{Passes}
use Rattle.guards.proofs.PlanWritten.{plan_written}

-- The passes write the plan.
pub plan_left : (ops : List Code) (events : ℕ) (lent : List ℕ) (size : ℕ) (left : List ℕ) → length ops ≤ 1024 → events ≤ 512 → 51204 ≤ length lent
    → Passes ops events lent size left → TableWritten ops events lent size left
plan_left ops events lent size left few short long h =
    let r : room ops events lent ≡ true =
    and_i (le-leb (length ops) 1024 few) (and_i (le-leb events 512 short) (le-leb 51204 (length lent) long)) in
    record {
      its_plan = λ d s o e y.
          let laid = expand_laid d s in
          plan_written (expand d) events lent laid.numbered (omega (arith, laid.end, e)) size left (rw o at h);
      any_numbers = λ y. h;
      no_room = λ n. absurd (clash r n);
    }
