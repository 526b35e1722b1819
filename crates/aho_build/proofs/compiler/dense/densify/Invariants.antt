-- The states below this number have their rows.
use Rattle.std.proofs.Common.{◌≡◌}
use Rattle.aho_build.specs.Dense.{row_start, AreWithinLimit}
use Rattle.aho_build.proofs.RowCounts.{rows_before, HaveRowsBelow}
use Rattle.aho_build.proofs.compiler.dense.densify.Given as goal

abbrev pub invariant-loop-index : goal.invariant-loop-index
invariant-loop-index l = record {
  table : l.table
      ≡ record l.fn.table {
        classes = l.fn.classes;
        dense_len = row_start l.fn.classes (rows_before l.fn.depth l.fn.table.states l.index);
        rows = l.table.rows;
      };
  rows : HaveRowsBelow l.fn.depth l.fn.table.states l.index l.table.rows;
  earlier : AreWithinLimit l.fn.table.limit l.fn.classes (rows_before l.fn.depth l.fn.table.states l.index);
}
