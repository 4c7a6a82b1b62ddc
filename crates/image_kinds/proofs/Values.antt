-- The value that bytes spell.
use Rattle.image_kinds.proofs.Common.{subst, ◌≡◌, ℕ, List, [], ◌∷◌, Result, Ok, Err, refl, sym, ap, ◌∙◌, map, IfOk, IfErr, Entry, Item, Taken, Kept, filter_map, AllByRecursion, taken_of, spelled, spelled_stream, spelled_image, IsItem, AreItems, IsStream, IsImage}
use Rattle.image_kinds.specs.declared.decode.StreamFault.{StreamFault}
use Rattle.image_kinds.specs.declared.decode.StreamFault.TheVariants.{Bad, NoMemory}
use Rattle.image_kinds.specs.Decoding.{IsStreamFault, IsReadAs}
use Rattle.image_kinds.proofs.Fronts.{one_value, spelled_is_good}
use Rattle.image_kinds.specs.declared.format.Format.TheVariants as format

pub same_entries : (xs ys : List Entry) → map Taken xs ≡ map Taken ys → xs ≡ ys
same_entries [] [] e = refl
same_entries [] (y ∷ ys) e = absurd cc
same_entries (x ∷ xs) [] e = absurd cc
same_entries (x ∷ xs) (y ∷ ys) e = cc (same_entries xs ys cc)

-- each item of a stream is taken
pub each_taken : (items : List Item) → AllByRecursion (IsItem format.Stream) items → map Taken (filter_map taken_of items) ≡ items
each_taken [] each = refl
each_taken (Taken e ∷ items) each = ap (λ (is : List Item). Taken e ∷ is) (each_taken items each.1)
each_taken (Kept path ∷ items) each = absurd cc

pub stream_of : (items : List Item) → AreItems format.Stream items → IsStream (filter_map taken_of items)
stream_of items are = subst (AreItems format.Stream) (sym (each_taken items are.each)) are

pub spelled_of : (items : List Item) → AreItems format.Stream items → spelled_stream (filter_map taken_of items) ≡ spelled format.Stream items
spelled_of items are = ap (spelled format.Stream) (each_taken items are.each)

pub only_stream : (bytes : List ℕ) (r : Result (List Entry) StreamFault) → IfOk r (λ s. IsStream s × (bytes ≡ spelled_stream s)) → IfErr r (IsStreamFault format.Stream bytes) → (s : List Entry) → IsStream s → bytes ≡ spelled_stream s → IsReadAs r s
only_stream bytes (Ok read) found fault s is spells = same_entries read s (one_value format.Stream (map Taken read) (map Taken s) found.0 is (sym found.1 ∙ spells))
only_stream bytes (Err (Bad offset)) found fault s is spells = spelled_is_good format.Stream bytes offset (map Taken s) fault is spells
only_stream bytes (Err NoMemory) found fault s is spells = tt

pub only_image : (bytes : List ℕ) (r : Result (List Item) StreamFault) → IfOk r (λ i. IsImage i × (bytes ≡ spelled_image i)) → IfErr r (IsStreamFault format.Image bytes) → (i : List Item) → IsImage i → bytes ≡ spelled_image i → IsReadAs r i
only_image bytes (Ok read) found fault i is spells = one_value format.Image read i found.0 is (sym found.1 ∙ spells)
only_image bytes (Err (Bad offset)) found fault i is spells = spelled_is_good format.Image bytes offset i fault is spells
only_image bytes (Err NoMemory) found fault i is spells = tt
