-- What a read adds to the bytes so far.
use Rattle.std.proofs.Common.{◌≡◌, ℕ, ◌+◌, ◌≤◌, List, ◌++◌, length, take, drop, sym, ◌∙◌, ap, arith, length-append, length-drop, take-append-drop}
use Rattle.std.proofs.lemmas.List.{take-take, drop-take, length-take-le, take_at, drop_at, drop-drop, take-append-le}
use borrow.Rule.Slice.PartMut.{put_mid, post_of}
use Rattle.vault_disk.specs.Disk.{Disk, IsSame, Now}
use Rattle.vault_disk.specs.Steps.{Reads, LookedAround, Looked}
use Rattle.vault_disk.proofs.Moments.{goes_on, weaker}

-- the first n bytes are those of the file
pub record Filled (bytes : List ℕ) (at n : ℕ) (into : List ℕ) : Type 0 where
  pub within : n ≤ length (drop at bytes)
  pub bytes_are : take n into ≡ take n (drop at bytes)

take_add : (m n : ℕ) (xs : List ℕ) → take (m + n) xs ≡ take m xs ++ take n (drop m xs)
take_add m n xs =
    sym (take-append-drop m (take (m + n) xs))
    ∙ ap (λ (l : List ℕ). l ++ drop m (take (m + n) xs)) (take-take m (m + n) xs (omega arith))
    ∙ ap (λ (l : List ℕ). take m xs ++ l) (drop-take m n xs)

-- what a part was replaced by
take_middle : (m n k : ℕ) (into part : List ℕ) → m ≤ length into → n ≤ length part → take (m + n) (put_mid m k into part) ≡ take m into ++ take n part
take_middle m n k into part le fits =
    let front : length (take m into) ≡ m = length-take-le m into le in
    let rest : List ℕ = part ++ post_of m k into in
    take_add m n (take m into ++ rest)
    ∙ ap (λ (l : List ℕ). l ++ take n (drop m (take m into ++ rest))) (take_at (take m into) rest m front)
    ∙ ap (λ (l : List ℕ). take m into ++ take n l) (drop_at (take m into) rest m front)
    ∙ ap (λ (l : List ℕ). take m into ++ l) (take-append-le n part (post_of m k into) fits)

pub within_part : (m n k : ℕ) (into part : List ℕ) → m ≤ length into → n ≤ length part → m + n ≤ length (put_mid m k into part)
within_part m n k into part le fits =
    omega (arith, length-append (take m into) (part ++ post_of m k into), length-append part (post_of m k into), length-take-le m into le, fits)

pub filled_on : (bytes now into part : List ℕ) (at m n k from : ℕ) → now ≡ bytes → from ≡ at + m → m ≤ length into → n ≤ length part → Filled bytes at m into → Reads now from n part → Filled bytes at (m + n) (put_mid m k into part)
filled_on bytes now into part at m n k from now_is from_is le fits filled reads =
    let rest : drop m (drop at bytes) ≡ drop (at + m) bytes = drop-drop m at bytes in
    let read_here : drop from now ≡ drop m (drop at bytes) = ap (λ (l : List ℕ). drop from l) now_is ∙ ap (λ (j : ℕ). drop j bytes) from_is ∙ sym rest in
    record {
      within = omega (arith, reads.within, filled.within, ap length read_here, length-drop m (drop at bytes));
      bytes_are = take_middle m n k into part le fits
          ∙ ap (λ (l : List ℕ). l ++ take n part) filled.bytes_are
          ∙ ap (λ (l : List ℕ). take m (drop at bytes) ++ l) (reads.bytes_are ∙ ap (λ (l : List ℕ). take n l) read_here)
          ∙ sym (take_add m n (drop at bytes));
    }

pub looked_on : (a b c : Disk) → LookedAround a b → Looked b c → IsSame a b → IsSame b c → LookedAround a c
looked_on a b c around looked ab bc = record {
  rests = record { seen = λ f. looked.rests.seen f ∙ around.rests.seen f; left = λ i left. around.rests.left i (looked.rests.left i left) };
  during = goes_on a b c (Now a) around.during (weaker b c (Now c) (Now a) (λ i s now. (around.rests.left i (looked.rests.left i now.0), now.1 ∙ bc.sent ∙ ab.sent)) looked.time.during);
}
