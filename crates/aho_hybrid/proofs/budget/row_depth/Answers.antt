use Rattle.std.proofs.Common.{arith}
use Rattle.std.proofs.Math.Nat.{mul-le-mul_right}
use Rattle.aho_hybrid.proofs.budget.row_depth.Goals as goal

pub overflow_mul-rows_count : goal.overflow_mul-rows_count
overflow_mul-rows_count c =
    omega (arith, mul-le-mul_right c.args.stride c.rows_count.ensures.bound, mul-le-mul_right c.args.stride c.rows_count.ensures.small, c.requires.bounded)

pub overflow_mul-rows_count-in-halves : goal.overflow_mul-rows_count-in-halves
overflow_mul-rows_count-in-halves c =
    omega (arith, mul-le-mul_right c.args.stride c.rows_count.ensures.bound, mul-le-mul_right c.args.stride c.rows_count.ensures.small, c.requires.bounded)
