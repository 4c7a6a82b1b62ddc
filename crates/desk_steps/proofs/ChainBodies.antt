-- Images that bytes spell, one after another.
use Rattle.std.proofs.Common.{◌≡◌, ◌<◌, ◌+◌, ◌∙◌, ℕ, List, [], ◌∷◌, ◌++◌, length, take, drop, Result, Ok, Err, refl, sym, ap, subst, get_or}
use Rattle.std.specs.Prelude.{IfErr}
use Rattle.std.proofs.lemmas.List.{drop_more, take-append-drop, take_more}
use Rattle.image_kinds.specs.Reading.{IsReading, image_in}
use Rattle.image_kinds.specs.declared.decode.StreamFault.{StreamFault}
use Rattle.image_kinds.specs.declared.decode.StreamFault.TheVariants.{Bad, NoMemory}
use Rattle.image_kinds.specs.declared.entry.Item.{Item}
use Rattle.desk_model.specs.Restores.{image_before, images_in, last_bytes}
use Rattle.desk_steps.specs.Chains.{IsBroken}

-- The images that bytes spell, with one more.

pub images_more : (front : List (List ℕ)) (bytes : List ℕ) (images : List (List Item)) (image : List Item) → images_in front ≡ Ok images → image_in bytes ≡ Ok image → images_in (front ++ bytes ∷ []) ≡ Ok (images ++ image ∷ [])
images_more [] bytes images image front_is is = let none : [] ≡ images = cc front_is in (λ j. image_before (is j) (Ok [])) ∙ ap (λ (l : List (List Item)). Ok (l ++ image ∷ [])) none
images_more (b ∷ front) bytes images image front_is is = at (image_in b) (images_in front) refl front_is (λ later made. images_more front bytes later image made is)
  where
    at : (first : Result (List Item) ℕ) (rest : Result (List (List Item)) ℕ) → images_in front ≡ rest → image_before first rest ≡ Ok images
        → ((later : List (List Item)) → images_in front ≡ Ok later → images_in (front ++ bytes ∷ []) ≡ Ok (later ++ image ∷ []))
        → image_before first (images_in (front ++ bytes ∷ [])) ≡ Ok (images ++ image ∷ [])
    at (Err offset) rest rest_is made more = absurd (cc made)
    at (Ok x) (Err offset) rest_is made more = absurd (cc made)
    at (Ok x) (Ok later) rest_is made more =
        let same : x ∷ later ≡ images = cc made in
        ap (image_before (Ok x)) (more later rest_is) ∙ ap (λ (l : List (List Item)). Ok (l ++ image ∷ [])) same

-- the first that are no image break
pub images_break : (front : List (List ℕ)) (bytes : List ℕ) (back : List (List ℕ)) (images : List (List Item)) (offset : ℕ) → images_in front ≡ Ok images → image_in bytes ≡ Err offset → images_in (front ++ bytes ∷ back) ≡ Err offset
images_break [] bytes back images offset front_is is = λ j. image_before (is j) (images_in back)
images_break (b ∷ front) bytes back images offset front_is is = at (image_in b) (images_in front) refl front_is (λ later made. images_break front bytes back later offset made is)
  where
    at : (first : Result (List Item) ℕ) (rest : Result (List (List Item)) ℕ) → images_in front ≡ rest → image_before first rest ≡ Ok images
        → ((later : List (List Item)) → images_in front ≡ Ok later → images_in (front ++ bytes ∷ back) ≡ Err offset)
        → image_before first (images_in (front ++ bytes ∷ back)) ≡ Err offset
    at (Err o) rest rest_is made more = absurd (cc made)
    at (Ok x) (Err o) rest_is made more = absurd (cc made)
    at (Ok x) (Ok later) rest_is made more = ap (image_before (Ok x)) (more later rest_is)

-- Lists that grow by what was read.

pub images_on : (all : List (List ℕ)) (i : ℕ) (bytes : List ℕ) (images images' : List (List Item)) (image : List Item) → i < length all → bytes ≡ get_or all i bytes → images_in (take i all) ≡ Ok images → image_in bytes ≡ Ok image → images' ≡ images ++ image ∷ [] → images_in (take (i + 1) all) ≡ Ok images'
images_on all i bytes images images' image lt is so reads grows =
    let next : take i all ++ bytes ∷ [] ≡ take (i + 1) all = ap (λ (b : List ℕ). take i all ++ b ∷ []) is ∙ sym (take_more all i bytes lt) in
    ap images_in (sym next) ∙ images_more (take i all) bytes images image so reads ∙ ap (λ (l : List (List Item)). Ok l) (sym grows)

pub images_stop : (all : List (List ℕ)) (i : ℕ) (bytes : List ℕ) (images : List (List Item)) (offset : ℕ) → i < length all → bytes ≡ get_or all i bytes → images_in (take i all) ≡ Ok images → image_in bytes ≡ Err offset → images_in all ≡ Err offset
images_stop all i bytes images offset lt is so breaks =
    let split : all ≡ take i all ++ bytes ∷ drop (i + 1) all =
    sym (take-append-drop i all) ∙ ap (λ (l : List (List ℕ)). take i all ++ l) (drop_more all i bytes lt ∙ ap (λ (b : List ℕ). b ∷ drop (i + 1) all) (sym is)) in
    ap images_in split ∙ images_break (take i all) bytes (drop (i + 1) all) images offset so breaks

pub broken_on : {A : Type 0} (all : List (List ℕ)) (i : ℕ) (bytes read : List ℕ) (images : List (List Item)) (fault : StreamFault) (result : Result A StreamFault) → i < length all → bytes ≡ get_or all i bytes → read ≡ bytes → images_in (take i all) ≡ Ok images
    → IsReading {A = List Item} (Err fault) (image_in read) → result ≡ Err fault → IfErr result (IsBroken (images_in all))
broken_on {A} all i bytes read images fault result lt is read_is so breaks same = subst (λ (r : Result A StreamFault). IfErr r (IsBroken (images_in all))) (sym same) (at fault breaks)
  where
    at : (f : StreamFault) → IsReading {A = List Item} (Err f) (image_in read) → IsBroken (images_in all) f
    at (Bad offset) here = images_stop all i bytes images offset lt is so (ap image_in (sym read_is) ∙ here)
    at NoMemory here = tt

-- The last of some bytes.
pub last_push : (front : List (List ℕ)) (bytes : List ℕ) → last_bytes (front ++ bytes ∷ []) ≡ bytes
last_push [] bytes = refl
last_push (x ∷ []) bytes = refl
last_push (x ∷ y ∷ front) bytes = last_push (y ∷ front) bytes
