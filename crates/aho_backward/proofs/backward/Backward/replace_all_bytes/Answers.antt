use Rattle.std.proofs.Common.{List, None, ap, arith, length, subst, sym, ◌∙◌}
use Rattle.std.proofs.lemmas.Result.{IfOk-weaker}
use Rattle.aho_core.specs.Occurrence.{Occurrence}
use Rattle.aho_core.specs.Replacement.{pieces_of, replaced}
use Rattle.aho_core.specs.Search.{plain_search}
use Rattle.aho_backward.specs.Replacing.{StandInTurn}
use Rattle.aho_backward.proofs.Apart.{finds_apart}
use Rattle.aho_backward.proofs.backward.Backward.replace_all_bytes.Goals as goal

pub replace_finds-requires : goal.replace_finds-requires
replace_finds-requires g c =
    let some = c.requires.of in
    record {
      apart = subst (λ (ms : List Occurrence). StandInTurn 0 (length c.args.haystack.now) ms) (sym c.deref.ensures.value)
          (finds_apart some.0 (plain_search c.args.haystack.now) None c.in_ok-found.found.items (omega arith) (c.in_ok-found.ensures.found some.0 some.1));
    }

pub returns : goal.returns
returns g c = record {
  replaced = λ p is.
      let pieces = pieces_of c.args.replace_with.now in
      IfOk-weaker c.replace_finds.result _ _ (λ bytes are. record {
        finds = c.in_ok-found.found.items;
        are = c.in_ok-found.ensures.found p is;
        replaced_are = are ∙ ap (λ (ms : List Occurrence). replaced c.args.haystack.now ms pieces) c.deref.ensures.value;
      }) c.replace_finds.ensures.replaced;
}
