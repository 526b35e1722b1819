-- A walk along a list.
use Rattle.std.proofs.Common.{◌≡◌, ℕ, ◌<◌, ◌≢◌, Option, Some, None, List, [], ◌∷◌, refl, sym, ap, subst, ◌∙◌, arith}
use Rattle.std.proofs.lemmas.Bool.Decides.{nat_tests}
use Rattle.aho_table.specs.Rings.{Entries, rest_from, place_after, IsRun, here, on, IsWalk}
use Rattle.aho_table.proofs.Runs.{list_to-run}

after-last : (link at last : ℕ) → at ≡ last → place_after link at last ≡ None
after-last link at last is = grind (arith, nat_tests)

after-inner : (link at last : ℕ) → at ≢ last → place_after link at last ≡ Some link
after-inner link at last ne = grind (arith, nat_tests)

pub rest_from-some : {X : Type 0} {entries : Entries X} {last at : ℕ} {xs : List X} → IsRun entries last at xs → rest_from entries (Some at) last ≡ xs
unfolding rest_from
rest_from-some run = list_to-run run

pub rest_from-none : {X : Type 0} (entries : Entries X) (last : ℕ) → rest_from entries None last ≡ []
unfolding rest_from
rest_from-none entries last = refl

-- the walk gives the entry's item, and what it leaves is the rest
pub rest_from-next : {X : Type 0} {entries : Entries X} {last at : ℕ} {xs : List X} → IsRun entries last at xs
    → rest_from entries (Some at) last ≡ entries.item at ∷ rest_from entries (place_after (entries.link at) at last) last
rest_from-next {X = X} {entries = entries} {last = last} {at = at} (here is eq) =
    rest_from-some (here is eq) ∙ eq ∙ ap (λ (n : ℕ). entries.item n ∷ []) (sym is)
    ∙ ap (λ (l : List X). entries.item at ∷ l) (sym (ap (λ (o : Option ℕ). rest_from entries o last) (after-last (entries.link at) at last is) ∙ rest_from-none entries last))
rest_from-next {X = X} {entries = entries} {last = last} {at = at} (on ne less run eq) =
    rest_from-some (on ne less run eq) ∙ eq
    ∙ ap (λ (l : List X). entries.item at ∷ l) (sym (ap (λ (o : Option ℕ). rest_from entries o last) (after-inner (entries.link at) at last ne) ∙ rest_from-some run))

pub IsWalk-next : {X : Type 0} {entries : Entries X} {count last at : ℕ} {xs : List X} → ((i : ℕ) → i < count → entries.link i < count) → at < count → IsRun entries last at xs
    → IsWalk entries count (place_after (entries.link at) at last) last
IsWalk-next {X = X} {entries = entries} {count = count} {last = last} {at = at} within below (here is eq) =
    subst (λ (o : Option ℕ). IsWalk entries count o last) (sym (after-last (entries.link at) at last is)) (record { within = within; on_list = tt })
IsWalk-next {X = X} {entries = entries} {count = count} {last = last} {at = at} within below (on {ys = ys} ne less run eq) =
    subst (λ (o : Option ℕ). IsWalk entries count o last) (sym (after-inner (entries.link at) at last ne)) (record { within = within; on_list = (within at below, ys, run) })
