use Rattle.std.proofs.Common.{◌≡◌, ◌∙◌, ℕ, ◌+◌, List, [], ◌∷◌, ◌++◌, refl, sym, ap, subst}
use Rattle.std.specs.Option.{option_to_list}
use Rattle.std.specs.Prelude.{Option}
use Rattle.acdraw.specs.Runs.{AreApart, Adjoins, all_pairs}
use Rattle.acdraw.specs.declared.picture.runs.Run.{Run}
use Rattle.acdraw.proofs.Runs.{apart_longer, apart_more, longer_run}
use Rattle.acdraw.proofs.picture.runs.put_byte.Goals as goal

pub returns-then-goes_on : goal.returns-then-goes_on
returns-then-goes_on c =
    let run : Run = c.in-Some.run' in
    let longer = longer_run c.args.runs.now.items run (record run { more = run.more + 1 }) c.args.byte refl (c.if-goes_on.ensures.place refl) in
    let next : run.next ≡ c.args.next = c.if-goes_on.ensures.next refl in
    record {
      apart = apart_longer c.args.runs.now.items run (record run { more = run.more + 1 }) refl refl
          (subst (λ (o : Option Run). AreApart (c.args.runs.now.items ++ option_to_list o)) c.in-Some.is c.requires.apart);
      put = longer
          ∙ ap (λ (n : ℕ). all_pairs (c.args.runs.now.items ++ run ∷ []) ++ (c.args.byte, n) ∷ []) next
          ∙ ap (λ (o : Option Run). all_pairs (c.args.runs.now.items ++ option_to_list o) ++ (c.args.byte, c.args.next) ∷ []) (sym c.in-Some.is);
    }

pub returns-clause-apart : goal.returns-clause-apart
returns-clause-apart c =
    let run : Run = c.in-Some.run' in
    let new : Run = c.of-2.result in
    let other : Adjoins run new → ⊥ = λ goes_on.
    c.if-goes_on.ensures.apart refl (goes_on.0 ∙ ap (λ (r : Run). r.first) c.of-2.ensures.of, goes_on.1 ∙ ap (λ (r : Run). r.next) c.of-2.ensures.of) in
    let so_far : AreApart (c.args.runs.now.items ++ run ∷ []) = subst (λ (o : Option Run). AreApart (c.args.runs.now.items ++ option_to_list o)) c.in-Some.is c.requires.apart in
    subst (λ (l : List Run). AreApart (l ++ new ∷ [])) (sym c.in_ok-push.ensures.items) (apart_more c.args.runs.now.items run new other so_far)
