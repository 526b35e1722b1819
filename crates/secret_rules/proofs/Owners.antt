-- Which rule each keyword is of.
use Rattle.std.proofs.Common.{◌≡◌, ◌∙◌, ℕ, zero, suc, ◌+◌, ◌-◌, ◌<◌, ◌++◌, List, [], ◌∷◌, Some, length, length-append, drop, flat_map, get_or, map, ap, ap₂, sym, refl, subst, arith, add-zero, add-one, append_assoc, inl, inr, String, Global, string_bytes}
use Rattle.std.proofs.lemmas.Bool.{cases_lt}
use Rattle.std.proofs.lemmas.List.{drop_more, get_or-append_right, get_or_append_left, get_or-append-add, length-map}
use Rattle.std.proofs.lemmas.Option.{none-some, same_Some, slice_get-get_or}
use Rattle.std.specs.List.{slice_get}
use Rattle.aho_core.specs.Listing.{IsMember}
use Rattle.secret_rules.specs.Keywords.{owners_from}
use Rattle.secret_rules.specs.Rules.{keywords_of}
use Rattle.secret_rules.specs.declared.rule.Rule.{Rule}
use Rattle.secret_rules.proofs.Membership.{member-at}

-- the numbers of the keywords of one more rule
pub owners_from-next : (number : ℕ) (rules : List Rule) (rule : Rule) (old new total : List ℕ) (words : List (String Global)) → number < length rules
    → words ≡ (get_or rules number rule).keywords.items → new ≡ old ++ map (λ _. number) words
    → old ++ owners_from number (drop number rules) ≡ total → new ++ owners_from (number + 1) (drop (number + 1) rules) ≡ total
owners_from-next number rules rule old new total words within are is so_far =
    let rest = owners_from (number + 1) (drop (number + 1) rules) in
    ap (λ xs. xs ++ rest) is ∙ append_assoc old (map (λ _. number) words) rest
    ∙ ap (λ more. old ++ more)
    (ap (λ ws. map (λ _. number) ws ++ rest) are ∙ sym (ap (owners_from number) (drop_more rules number rule within)))
    ∙ so_far

get_or-constant : {A : Type 0} (n : ℕ) (xs : List A) (k : ℕ) → k < length xs → get_or (map (λ _. n) xs) k 0 ≡ n
get_or-constant n [] k h = absurd (omega arith)
get_or-constant n (x ∷ xs) zero h = refl
get_or-constant n (x ∷ xs) (suc k) h = get_or-constant n xs k (omega arith)

pub member-get_or : {A : Type 0} (xs : List A) (k : ℕ) (d : A) → k < length xs → IsMember xs (get_or xs k d)
member-get_or xs k d h = member-at xs k (get_or xs k d) (slice_get-get_or xs k d h)

place-of_member : {A : Type 0} (xs : List A) (x d : A) → IsMember xs x → (k : ℕ) × (k < length xs) × (get_or xs k d ≡ x)
place-of_member [] x d h = absurd h
place-of_member (y ∷ xs) x d (inl here) = (0, omega arith, sym here)
place-of_member (y ∷ xs) x d (inr later) = let rest = place-of_member xs x d later in (suc rest.0, omega (arith, rest.1), rest.2)

pub length-owners : (number : ℕ) (rules : List Rule) → length (owners_from number rules) ≡ length (flat_map keywords_of rules)
length-owners number [] = refl
length-owners number (rule ∷ rules) =
    length-append (map (λ _. number) rule.keywords.items) (owners_from (number + 1) rules)
    ∙ ap₂ ◌+◌ (length-map rule.keywords.items (λ _. number) ∙ sym (length-map rule.keywords.items string_bytes)) (length-owners (number + 1) rules)
    ∙ sym (length-append (keywords_of rule) (flat_map keywords_of rules))

-- the rule of a keyword by its place in the list of all
pub record IsWordOf (number : ℕ) (rules : List Rule) (place : ℕ) : Type 0 where
  pub at : ℕ
  pub rule : Rule
  pub numbered : slice_get rules at ≡ Some rule
  pub owner : get_or (owners_from number rules) place 0 ≡ number + at
  pub word : IsMember (keywords_of rule) (get_or (flat_map keywords_of rules) place [])

pub word-owned : (number : ℕ) (rules : List Rule) (place : ℕ) → place < length (flat_map keywords_of rules) → IsWordOf number rules place
word-owned number [] place within = absurd (omega arith)
word-owned number (rule ∷ rules) place within =
    let front = keywords_of rule in
    let first = map (λ _. number) rule.keywords.items in
    let same : length first ≡ length front = length-map rule.keywords.items (λ _. number) ∙ sym (length-map rule.keywords.items string_bytes) in
    let all : length (front ++ flat_map keywords_of rules) ≡ length front + length (flat_map keywords_of rules) = length-append front (flat_map keywords_of rules) in
    elim (cases_lt place (length front)) [
      | inl here ↦ record {
        at = 0;
        rule = rule;
        numbered = refl;
        owner = get_or_append_left first (owners_from (number + 1) rules) 0 place (omega arith) ∙ get_or-constant number rule.keywords.items place (omega (arith, length-map rule.keywords.items string_bytes)) ∙ sym (add-zero number);
        word = subst (IsMember front) (sym (get_or_append_left front (flat_map keywords_of rules) [] place here)) (member-get_or front place [] here);
      }
      | inr later ↦
          let rest = word-owned (number + 1) rules (place - length front) (omega arith) in
          record {
            at = rest.at + 1;
            rule = rest.rule;
            numbered = ap (slice_get (rule ∷ rules)) (add-one rest.at) ∙ rest.numbered;
            owner = get_or-append_right first (owners_from (number + 1) rules) (length front) place 0 same later ∙ rest.owner ∙ omega arith;
            word = subst (IsMember (keywords_of rest.rule)) (sym (get_or-append_right front (flat_map keywords_of rules) (length front) place [] refl later)) rest.word;
          }
    ]

-- the place of a keyword of a rule
pub record HasPlace (number : ℕ) (rules : List Rule) (at : ℕ) (word : List ℕ) : Type 0 where
  pub place : ℕ
  pub within : place < length (flat_map keywords_of rules)
  pub is : get_or (flat_map keywords_of rules) place [] ≡ word
  pub owner : get_or (owners_from number rules) place 0 ≡ number + at

pub word-placed : (number : ℕ) (rules : List Rule) (at : ℕ) (rule : Rule) (word : List ℕ) → slice_get rules at ≡ Some rule → IsMember (keywords_of rule) word
    → HasPlace number rules at word
word-placed number [] at rule word held is = absurd (none-some _ held)
word-placed number (first ∷ rules) zero rule word held is =
    let front = keywords_of first in
    let same : first ≡ rule = same_Some _ _ held in
    let k = place-of_member front word [] (subst (λ (r : Rule). IsMember (keywords_of r) word) (sym same) is) in
    let all : length (front ++ flat_map keywords_of rules) ≡ length front + length (flat_map keywords_of rules) = length-append front (flat_map keywords_of rules) in
    let counts : length (map (λ _. number) first.keywords.items) ≡ length front = length-map first.keywords.items (λ _. number) ∙ sym (length-map first.keywords.items string_bytes) in
    record {
      place = k.0;
      within = omega (arith, k.1);
      is = get_or_append_left front (flat_map keywords_of rules) [] k.0 k.1 ∙ k.2;
      owner = get_or_append_left (map (λ _. number) first.keywords.items) (owners_from (number + 1) rules) 0 k.0 (omega (arith, k.1))
          ∙ get_or-constant number first.keywords.items k.0 (omega (arith, k.1, length-map first.keywords.items string_bytes)) ∙ sym (add-zero number);
    }
word-placed number (first ∷ rules) (suc at) rule word held is =
    let front = keywords_of first in
    let rest = word-placed (number + 1) rules at rule word held is in
    let all : length (front ++ flat_map keywords_of rules) ≡ length front + length (flat_map keywords_of rules) = length-append front (flat_map keywords_of rules) in
    let counts : length (map (λ _. number) first.keywords.items) ≡ length front = length-map first.keywords.items (λ _. number) ∙ sym (length-map first.keywords.items string_bytes) in
    record {
      place = length front + rest.place;
      within = omega (arith, rest.within);
      is = get_or-append-add front (flat_map keywords_of rules) rest.place [] ∙ rest.is;
      owner = ap (λ n. get_or (map (λ _. number) first.keywords.items ++ owners_from (number + 1) rules) (n + rest.place) 0) (sym counts)
          ∙ get_or-append-add (map (λ _. number) first.keywords.items) (owners_from (number + 1) rules) rest.place 0 ∙ rest.owner ∙ omega arith;
    }
