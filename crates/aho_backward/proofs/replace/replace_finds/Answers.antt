-- The next match lies behind what was copied, and what is left is made anew from its end on.
use Rattle.std.proofs.Common.{◌≤◌, length, arith}
use Rattle.aho_backward.proofs.Apart.{apart_next}
use Rattle.aho_backward.proofs.replace.replace_finds.Goals as goal

pub slice_bounds-extend_from_slice-count : goal.slice_bounds-extend_from_slice-count
slice_bounds-extend_from_slice-count c =
    let l = apart_next c.loop-m.copied (length c.args.haystack.now) c.loop-m.left.now c.in-Some.rest.now c.in-Some.m.now c.in-Some.ensures.cases.0 c.loop-m.invariant.apart in
    omega (arith, l.0, l.1, l.2, c.start.ensures.start)

pub slice_bounds-extend_from_slice-start : goal.slice_bounds-extend_from_slice-start
slice_bounds-extend_from_slice-start c =
    let l = apart_next c.loop-m.copied (length c.args.haystack.now) c.loop-m.left.now c.in-Some.rest.now c.in-Some.m.now c.in-Some.ensures.cases.0 c.loop-m.invariant.apart in
    let low : c.loop-m.copied ≤ c.start.result = omega (arith, l.0, c.start.ensures.start) in
    low

pub slice_bounds-extend_from_slice-end : goal.slice_bounds-extend_from_slice-end
slice_bounds-extend_from_slice-end c =
    let l = apart_next c.loop-m.copied (length c.args.haystack.now) c.loop-m.left.now c.in-Some.rest.now c.in-Some.m.now c.in-Some.ensures.cases.0 c.loop-m.invariant.apart in
    let high : c.start.result ≤ length c.args.haystack.now = omega (arith, l.1, l.2, c.start.ensures.start) in
    high
