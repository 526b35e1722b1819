-- The names were sorted, and none of them is left.
use Rattle.acgrep.proofs.Common.{nil_from_length}
use Rattle.std.proofs.Common.{◌++◌, ◌∙◌, ◌≡◌, [], ap, length, rules, sym}
use Rattle.std.proofs.lemmas.List.Sorted.{IsPermutation-map}
use Rattle.std.specs.Cmp.Lexicographic.{slice_cmp}
use Rattle.std.specs.Ordering.{is_lt, nat_cmp}
use Rattle.std.specs.Prelude.{map}
use Rattle.acgrep.specs.Folders.{inside, spots_of}
use Rattle.acgrep.specs.Listed.{listed_bytes}
use Rattle.acgrep.proofs.Walking.{sorted-map}
use Rattle.acgrep.proofs.walk.put_first.Goals as goal

pub returns : goal.returns
returns c =
    let ordered = c.sort.new.self.items in
    let folder = c.args.folder.now in
    let gone : length c.loop-last.left.items ≡ 0 = search rules in
    let none : c.loop-last.left.items ≡ [] = nil_from_length c.loop-last.left.items gone in
    record {
      put = record {
        ordered = listed_bytes ordered;
        permuted = IsPermutation-map (λ name. name.items) c.args.names.items ordered c.sort.ensures.permutation;
        sorted = sorted-map (λ name. name.items) (λ x y. is_lt (slice_cmp nat_cmp x y)) ordered c.in_ok-sort.ensures.sorted;
        put = ap (λ l. map (inside folder) (listed_bytes l) ++ spots_of c.loop-last.pending.items) (sym none) ∙ c.loop-last.invariant;
      };
    }
