-- A walk begins at the operands, or in the working folder.
use Rattle.acgrep.proofs.Common.{common_steps, length-map, name_bytes, nil_from_length, on_ok_weaker}
use Rattle.std.proofs.Common.{◌++◌, ◌<◌, ◌∙◌, ◌∷◌, ◌≡◌, List, [], ap, arith, length, subst, sym, ℕ}
use Rattle.std.specs.Prelude.{map}
use Rattle.acgrep.specs.Folders.{Begins, PutsInside, Spot, missed_of, operand, spots_of, tree_of}
use Rattle.acgrep.specs.Listed.{listed_bytes}
use Rattle.acgrep.proofs.Walking.{begins-given, begins-here, begins-nowhere}
use Rattle.acgrep.proofs.walk.begin.Goals as goal

pub returns-then-not-is_empty : goal.returns-then-not-is_empty
returns-then-not-is_empty g c =
    let names = name_bytes c.args.operands.now in
    let full : 0 < length c.args.operands.now = grind (arith, common_steps, c.is_empty.ensures, c.if-not-is_empty.true) in
    let some : 0 < length names = subst (λ (n : ℕ). 0 < n) (sym (length-map c.args.operands.now (λ name. name.now))) full in
    record {
      begun = on_ok_weaker c.put_given.result
          (λ put rules. subst (λ (l : List Spot). Begins (tree_of g.F.Folders c.args.files.now) rules c.args.ways names l c.args.found.now) (sym (put ∙ ap (λ l. spots_of l ++ map operand names) c.requires.none))
          (begins-given _ rules _ names _ some (ap listed_bytes c.requires.nothing) (ap missed_of c.requires.nowhere)))
          c.put_given.ensures.put;
    }

pub returns-in_ok-above-in-Ok : goal.returns-in_ok-above-in-Ok
returns-in_ok-above-in-Ok g c =
    let empty : length c.args.operands.now ≡ 0 = grind (arith, common_steps, c.is_empty.ensures, c.if-not-is_empty.false) in
    let names = listed_bytes c.in-Ok.names.items in
    let after = spots_of c.put_first.new.pending.items in
    record {
      begun = on_ok_weaker c.put_first.result
          (λ put rules. rw (ap name_bytes (nil_from_length c.args.operands.now empty))
          (begins-here _ rules _ _ names after c.in-Ok.ensures.told (subst (λ (l : List Spot). PutsInside names [] l after) (ap spots_of c.requires.none) put) (ap listed_bytes c.requires.nothing) (ap missed_of c.requires.nowhere)))
          c.put_first.ensures.put;
    }

pub returns-in_ok-from_slice-in-Err : goal.returns-in_ok-from_slice-in-Err
returns-in_ok-from_slice-in-Err g c =
    let empty : length c.args.operands.now ≡ 0 = grind (arith, common_steps, c.is_empty.ensures, c.if-not-is_empty.false) in
    record {
      begun = on_ok_weaker c.miss.result
          (λ grown rules. rw (ap name_bytes (nil_from_length c.args.operands.now empty), ap spots_of c.requires.none)
          (begins-nowhere _ rules _ _ (ap (λ n. listed_bytes n.items) c.miss.ensures.names ∙ ap listed_bytes c.requires.nothing)
          (grown ∙ ap (λ l. missed_of l ++ (c.in_ok-from_slice-in-Err.field-0.items ∷ [])) c.requires.nowhere ∙ ap (λ (n : List ℕ). n ∷ []) c.in_ok-from_slice-in-Err.ensures.items)))
          c.miss.ensures.unread;
    }
