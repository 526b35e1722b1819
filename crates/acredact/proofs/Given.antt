-- Right arguments have nothing wrong.
use Rattle.acredact.proofs.Common.{AsWord, Bool, Forms, Given, List, None, Option, Some, all_asked, and-false, ap, arith, covers_asked, given_by, has, if◌then◌else◌, inl, inr, option_and_then, refl, same_Some, sym, words_asked, ℕ, ◌&&◌, ◌∙◌, ◌≡◌}
use Rattle.std.specs.Prelude.{true, false}
use Rattle.std.specs.Result.{result_ok}
use Rattle.acredact.specs.Arguments.{IsMistakeOfCall, fitting_by, mixture_of}
use Rattle.acredact.specs.declared.mistakes.Mistake.{Mistake}
use Rattle.acredact.specs.declared.mistakes.Mistake.TheVariants.{OutOfMemory}
use Rattle.acredact.specs.declared.mistakes.Mixture.{Mixture}

-- what was given is one list alone
pub same_given : (asked : Option (List Given)) (given items : List Given) → asked ≡ Some given → asked ≡ Some items → items ≡ given
same_given asked given items first second = same_Some items given (sym second ∙ first)

-- options that were read go together
fits : (mixture : Option Mixture) (read given : List Given) → mixture_of read ≡ mixture → fitting_by mixture read ≡ Some given → mixture_of given ≡ None
fits None read given of is = sym (ap mixture_of (same_Some read given is)) ∙ of
fits (Some mixture) read given of is = absurd (cc)

read_fits : (read : Option (List Given)) (given : List Given) → option_and_then (λ items. fitting_by (mixture_of items) items) read ≡ Some given → mixture_of given ≡ None
read_fits None given is = absurd (cc)
read_fits (Some read) given is = fits (mixture_of read) read given refl is

-- where the first of some options go together the others do too
none_of : (b : Bool) (mixture : Mixture) (rest : Option Mixture) → (if b then Some mixture else rest) ≡ None → (b ≡ false) × (rest ≡ None)
none_of b mixture rest none = grind arith

-- forms are those of covers, and do not go with words
of_mixture : (given : List Given) → mixture_of given ≡ None → has Forms given ≡ true → (covers_asked given ≡ true) × (words_asked given ≡ false)
of_mixture given none forms =
    let no_words : has AsWord given ≡ false = grind (arith, none_of) in
    (grind arith, ap (λ (b : Bool). covers_asked given && b) no_words ∙ and-false (covers_asked given))

pub forms_fit : (arguments : List (List ℕ)) (given : List Given) → all_asked arguments ≡ Some given → has Forms given ≡ true → (covers_asked given ≡ true) × (words_asked given ≡ false)
forms_fit arguments given asked = of_mixture given (read_fits (result_ok (given_by arguments)) given asked)

-- nothing is wrong with right arguments but that memory runs out
pub memory_alone : (arguments : List (List ℕ)) (given : List Given) (mistake : Mistake) → all_asked arguments ≡ Some given → IsMistakeOfCall arguments mistake → mistake ≡ OutOfMemory
memory_alone arguments given mistake asked (inl (inl memory)) = memory
memory_alone arguments given mistake asked (inl (inr wrong)) = let clash : None ≡ Some given = rw wrong at asked in absurd (cc)
memory_alone arguments given mistake asked (inr (items, mixture, read, mixed, is)) = let clash : None ≡ Some given = rw (read, mixed) at asked in absurd (cc)
