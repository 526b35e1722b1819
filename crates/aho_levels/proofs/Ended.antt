-- One pattern more that ends.
use Rattle.std.proofs.Common.{◌≡◌, ◌∙◌, sym, ap, subst, inl, inr, ℕ, ◌<◌, ◌≤◌, List, [], ◌∷◌, ◌++◌, length, get_or, arith}
use Rattle.std.specs.List.{All, AllPairs, Contains}
use Rattle.std.proofs.lemmas.Bool.{cases_lt}
use Rattle.std.proofs.lemmas.List.Elements.{All-get_or, All-push, All-weaker, Contains-append_left, Contains-push}
use Rattle.std.proofs.lemmas.List.Quantifiers.{all_pairs_push}
use Rattle.aho_levels.specs.Growing.{AddsOwn, AreEnds, IsOwnBefore, PushesOwn}
use Rattle.aho_levels.specs.declared.trie.Ends.{Ends}
use Rattle.aho_levels.specs.declared.trie.Own.{Own}

module _ (old new : Ends) (own : Own) (are : AreEnds old) (unpassed : old.passed < own.state) where
  pub adds : (least : Own) → PushesOwn own least old new → AddsOwn own old new
  adds least pushed = record { owns = pushed.owns; unpassed = unpassed; passed = pushed.passed }

  rising-by : (least : Own) → PushesOwn own least old new → ((d : Own) (k : ℕ) → k < length old.owns.items → IsOwnBefore (get_or old.owns.items k d) own) → AllPairs IsOwnBefore new.owns.items
  rising-by least pushed each =
      subst (λ (owns : List Own). AllPairs IsOwnBefore owns) (sym pushed.owns)
      (all_pairs_push IsOwnBefore old.owns.items own are.rising (λ k d lt. each d k lt))

  -- the first of its state
  pub ends-first : old.last.state < own.state → PushesOwn own own old new → AreEnds new
  ends-first above pushed = record {
    rising = rising-by own pushed (λ d k lt. inl (omega (arith, All-get_or (λ (o : Own). o.state ≤ old.last.state) old.owns.items k d lt are.below, above)));
    below = over (λ (o : Own). o.state ≤ new.last.state) (All-weaker (λ (o : Own). o.state ≤ old.last.state) (λ (o : Own). o.state ≤ new.last.state) (λ o le. omega (arith, le, above, state_is)) old.owns.items are.below) (omega (arith, state_is));
    most = over (λ (o : Own). o.state ≡ new.last.state → o.number ≤ new.last.number) (All-weaker (λ (o : Own). o.state ≤ old.last.state) (λ (o : Own). o.state ≡ new.last.state → o.number ≤ new.last.number) (λ o le same. absurd (omega (arith, le, same, above, state_is))) old.owns.items are.below) (λ same. omega (arith, ap (λ (o : Own). o.number) pushed.last));
    fewest = over (λ (o : Own). o.state ≡ new.last.state → new.least.number ≤ o.number) (All-weaker (λ (o : Own). o.state ≤ old.last.state) (λ (o : Own). o.state ≡ new.last.state → new.least.number ≤ o.number) (λ o le same. absurd (omega (arith, le, same, above, state_is))) old.owns.items are.below) (λ same. omega (arith, ap (λ (o : Own). o.number) pushed.first));
    same = ap (λ (o : Own). o.state) pushed.first ∙ sym state_is;
    there = λ some. subst (λ (owns : List Own). Contains owns new.least) (sym pushed.owns) (subst (λ (o : Own). Contains (old.owns.items ++ own ∷ []) o) (sym pushed.first) (Contains-push old.owns.items own));
  }
    where
      state_is : new.last.state ≡ own.state
      state_is = ap (λ (o : Own). o.state) pushed.last

      over : (P : Own → Type 0) → All P old.owns.items → P own → All P new.owns.items
      over P all one = subst (All P) (sym pushed.owns) (All-push P old.owns.items own all one)

  -- a later one of its state
  pub ends-next : old.last.state ≡ own.state → old.last.number < own.number → PushesOwn own old.least old new → AreEnds new
  ends-next same more pushed = record {
    rising = rising-by old.least pushed before;
    below = over (λ (o : Own). o.state ≤ new.last.state) (All-weaker (λ (o : Own). o.state ≤ old.last.state) (λ (o : Own). o.state ≤ new.last.state) (λ o le. omega (arith, le, same, state_is)) old.owns.items are.below) (omega (arith, state_is));
    most = over (λ (o : Own). o.state ≡ new.last.state → o.number ≤ new.last.number) (All-weaker (λ (o : Own). o.state ≡ old.last.state → o.number ≤ old.last.number) (λ (o : Own). o.state ≡ new.last.state → o.number ≤ new.last.number) (λ o most here. omega (arith, most (here ∙ state_is ∙ sym same), more, ap (λ (o : Own). o.number) pushed.last)) old.owns.items are.most) (λ here. omega (arith, ap (λ (o : Own). o.number) pushed.last));
    fewest = over (λ (o : Own). o.state ≡ new.last.state → new.least.number ≤ o.number) (All-weaker (λ (o : Own). o.state ≡ old.last.state → old.least.number ≤ o.number) (λ (o : Own). o.state ≡ new.last.state → new.least.number ≤ o.number) (λ o least here. omega (arith, least (here ∙ state_is ∙ sym same), ap (λ (o : Own). o.number) pushed.first)) old.owns.items are.fewest) (λ here. omega (arith, ap (λ (o : Own). o.number) pushed.first, fewest_most, more));
    same = ap (λ (o : Own). o.state) pushed.first ∙ are.same ∙ same ∙ sym state_is;
    there = λ some. subst (λ (owns : List Own). Contains owns new.least) (sym pushed.owns) (subst (λ (o : Own). Contains (old.owns.items ++ own ∷ []) o) (sym pushed.first) (Contains-append_left old.owns.items (own ∷ []) old.least there_before));
  }
    where
      state_is : new.last.state ≡ own.state
      state_is = ap (λ (o : Own). o.state) pushed.last

      over : (P : Own → Type 0) → All P old.owns.items → P own → All P new.owns.items
      over P all one = subst (All P) (sym pushed.owns) (All-push P old.owns.items own all one)

      there_before : Contains old.owns.items old.least
      there_before = are.there (λ zero_is. omega (arith, zero_is, same, unpassed))

      fewest_most : old.least.number ≤ old.last.number
      fewest_most =
          let t = there_before in
          let most = are.most t.0 old.least t.1 in
          let read : get_or old.owns.items t.0 old.least ≡ old.least = t.2 in
          omega (arith, most (ap (λ (o : Own). o.state) read ∙ are.same), ap (λ (o : Own). o.number) read)

      before : (d : Own) (k : ℕ) → k < length old.owns.items → IsOwnBefore (get_or old.owns.items k d) own
      before d k lt =
          let below = are.below k d lt in
          let most = are.most k d lt in
          elim (cases_lt (get_or old.owns.items k d).state own.state) [
            | inl less ↦ inl less
            | inr ge ↦ (let here : (get_or old.owns.items k d).state ≡ own.state = omega (arith, ge, below, same) in inr (here, omega (arith, most (here ∙ sym same), more)))
          ]
