-- The patterns that options give, one after another.
use Rattle.acredact.proofs.Common.{CannotLoadOne, Failure, Folders, IsAddedSome, List, OfName, Option, [], all_given, ap, append-nil, append_assoc, arith, common_steps, get_or, get_or-map, given_of, inr, length, length-map, map, reading_of_lists, refl, sym, take, take_all, ℕ, ◌++◌, ◌+◌, ◌<◌, ◌∙◌, ◌∷◌, ◌≡◌, ◌≤◌}
use Rattle.std.proofs.lemmas.List.{map_more}
use Rattle.acredact.specs.declared.options.Item.{Item}
use Rattle.acredact.specs.Loading.{CannotLoad, IsFileFailure, IsListText, IsListedFailure, Reading, Rules, rules_for}
use Rattle.acredact.specs.declared.load.Listed.{Listed}
use Rattle.acredact.specs.declared.load.Lists.{Lists}
use Rattle.acredact.specs.Reads.{EachGives, ReadsText}

-- what some give was added
pub record GivenSoFar {I X S : Type 0} (Gives : I → List X → (left left' : S) → Type 0) (items : List I) (before between : S) (old new : List X) : Type 0 where
  pub more : List X
  pub grown : new ≡ old ++ more
  pub of : EachGives Gives items more before between

-- what one more gives stands behind it
each_then : {I X S : Type 0} (Gives : I → List X → (left left' : S) → Type 0) (items : List I) (one : I) (so more : List X) (before between left : S) → EachGives Gives items so before between → Gives one more between left
    → EachGives Gives (items ++ one ∷ []) (so ++ more) before left
each_then Gives [] one so more before between left (none, same) gives = (more, [], ap (λ l. l ++ more) none ∙ sym (append-nil more), left, rw same at gives, (refl, refl))
each_then Gives (item ∷ items) one so more before between left (first, rest, are, mid, of, given) gives =
    (first, rest ++ more, ap (λ l. l ++ more) are ∙ append_assoc first rest more, mid, of, each_then Gives items one rest more mid between left given gives)

module _ {I X S : Type 0} {Gives : I → List X → (left left' : S) → Type 0} {before between : S} {old mid : List X} where
  pub given_next : {items : List I} {one : I} {left : S} {new : List X} → GivenSoFar Gives items before between old mid → IsAddedSome (λ more. Gives one more between left) mid new → GivenSoFar Gives (items ++ one ∷ []) before left old new
  given_next {items} {one} {left} far added = record {
    more = far.more ++ added.more;
    grown = added.grown ∙ ap (λ l. l ++ added.more) far.grown ∙ append_assoc old far.more added.more;
    of = each_then Gives items one far.more added.more before between left far.of added.of;
  }

  -- the same of what is made of some, up to a place
  module _ {Y : Type 0} (f : Y → I) (ys : List Y) (at : ℕ) where
    pub given_item : {left : S} {new : List X} (d : Y) → at < length ys → GivenSoFar Gives (map f (take at ys)) before between old mid → IsAddedSome (λ more. Gives (f (get_or ys at d)) more between left) mid new
        → GivenSoFar Gives (map f (take (at + 1) ys)) before left old new
    given_item d below far added = rw (map_more f ys at d below) (given_next far added)

    pub given_all : length ys ≤ at → GivenSoFar Gives (map f (take at ys)) before between old mid → IsAddedSome (λ more. EachGives Gives (map f ys) more before between) old mid
    given_all past far = record { more = far.more; grown = far.grown; of = rw (take_all at ys past) at far.of }

-- lists are read alike
pub reading_from : {F X : Type 0} (D : Folders F X) (lists : Lists F) {folder : F} {rules : Rules} → lists.folder.now ≡ folder → rules_for lists ≡ rules → (P : Reading → Type 0)
    → P (reading_of_lists D lists) → P (record { holds = D.holds folder; refuses = D.refuses folder; environment = D.environment folder; rules = rules })
reading_from D lists same alike P is = rw (← same, ← alike) is

-- one of the items cannot be loaded
pub fails_at : (reading : Reading) (items : List Item) (at : ℕ) (d : Item) (failure : Failure) → at < length items → CannotLoad reading (given_of (get_or items at d)) failure → CannotLoadOne reading (all_given items) failure
fails_at reading items at d failure below fails =
    let it = given_of (get_or items at d) in
    (at, it, omega (arith, below, length-map items given_of), get_or-map given_of items at d it below, fails)

-- where the text of a list gives none the list does not: the text is what the folder tells
pub file_fails : (reading : Reading) (listed : Listed) (name text : List ℕ) (left left' : Option (List ℕ)) (failure : Failure) → OfName reading.holds name (ReadsText text) left left'
    → IsListedFailure reading.rules listed name text failure → IsFileFailure reading listed name failure
file_fails reading listed name text left left' failure reads fails =
    let told : IsListText reading name text = grind (arith, common_steps) in inr (text, told, fails)
