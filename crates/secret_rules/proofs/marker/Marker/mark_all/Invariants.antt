use Rattle.std.proofs.Common.{◌≡◌, IsTrue, length}
use Rattle.secret_rules.specs.Marking.{marker_rules}
use Rattle.secret_rules.proofs.Turns.{AreTurnsDone}
use Rattle.secret_rules.proofs.marker.Marker.mark_all.Given as goal

abbrev pub invariant-loop-number : goal.invariant-loop-number
invariant-loop-number l = record {
  rules : marker_rules l.self ≡ marker_rules l.fn.self;
  count : length l.self.goes_on.items ≡ length l.fn.self.goes_on.items;
  applying : l.self.applying ≡ l.fn.self.applying;
  some : IsTrue l.self.some_goes_on;
  done : AreTurnsDone (marker_rules l.fn.self) l.line l.fn.self.goes_on.items l.self.goes_on.items l.number l.marks.items;
}
