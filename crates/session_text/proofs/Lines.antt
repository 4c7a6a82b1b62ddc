-- Where a line ends.
use Rattle.session_text.proofs.Common.{◌≡◌, ◌<◌, ◌≤◌, ◌+◌, ℕ, min, List, ◌++◌, length, take, get_or, Bool, true, false, refl, sym, ◌∙◌, ap, arith, length-append, length-take, position, Some, None, take_min, take-append-le, get_or-take, get_or_append_left, line_limit, line_end, is_line_feed}
use Rattle.std.specs.List.{position_or_len}
use Rattle.std.proofs.lemmas.List.Quantifiers.{position-Some}
use Rattle.std.proofs.lemmas.List.Sums.{position_or_len_is}
use Rattle.std.proofs.lemmas.Bool.{lt-ltb}

pub front_is : (n m : ℕ) (xs : List ℕ) → m ≡ min (length xs) n → take m xs ≡ take n xs
front_is n m xs is = ap (λ (k : ℕ). take k xs) (is ∙ grind arith) ∙ take_min n xs

-- the first line feed among the first n bytes stands here
pub record EndsAt (n : ℕ) (xs : List ℕ) (end : ℕ) : Type 0 where
  pub early : end < n
  pub within : end < length xs
  pub feed : is_line_feed (get_or xs end 0) ≡ true
  pub before : (k : ℕ) → k < end → is_line_feed (get_or xs k 0) ≡ false

position_is : (p : ℕ → Bool) (xs : List ℕ) (k : ℕ) → position_or_len p xs ≡ k → k < length xs → position p xs ≡ Some k
position_is p xs k is lt = rw (is, lt-ltb k (length xs) lt) refl

-- it stands there in each text that is the same up to it
same_end : (n : ℕ) (xs ys : List ℕ) (end : ℕ) → end < length ys → ((k : ℕ) → k ≤ end → get_or ys k 0 ≡ get_or xs k 0) → EndsAt n xs end → EndsAt n ys end
same_end n xs ys end within same ends = record {
  early = ends.early;
  within = within;
  feed = ap (λ (x : ℕ). is_line_feed x) (same end (omega arith)) ∙ ends.feed;
  before = λ k lt. ap (λ (x : ℕ). is_line_feed x) (same k (omega arith)) ∙ ends.before k lt;
}

pub EndsAt-more : (n : ℕ) (xs ys : List ℕ) (end : ℕ) → EndsAt n xs end → EndsAt n (xs ++ ys) end
EndsAt-more n xs ys end ends =
    let within : end < length xs = ends.within in
    same_end n xs (xs ++ ys) end (omega (arith, length-append xs ys)) (λ k le. get_or_append_left xs ys 0 k (omega arith)) ends

pub EndsAt-take : (n m : ℕ) (xs : List ℕ) (end : ℕ) → end < m → EndsAt n xs end → EndsAt n (take m xs) end
EndsAt-take n m xs end lt ends =
    let within : end < length xs = ends.within in
    same_end n xs (take m xs) end (omega (arith, length-take m xs)) (λ k le. get_or-take m xs k 0 (omega arith)) ends

pub ends_at : (n : ℕ) (xs : List ℕ) (end : ℕ) → position is_line_feed (take n xs) ≡ Some end → EndsAt n xs end
ends_at n xs end is =
    let (within, feed, before) = position-Some is_line_feed (take n xs) end 0 is in
    let long : length (take n xs) ≡ min n (length xs) = length-take n xs in
    same_end n (take n xs) xs end (omega arith) (λ k le. sym (get_or-take n xs k 0 (omega arith))) (record { early = omega arith; within = within; feed = feed; before = before })

pub found : (n : ℕ) (xs : List ℕ) (end : ℕ) → EndsAt n xs end → position is_line_feed (take n xs) ≡ Some end
found n xs end ends =
    let front = EndsAt-take n n xs end ends.early ends in
    position_is is_line_feed (take n xs) end (position_or_len_is is_line_feed (take n xs) end 0 (omega arith) front.before (λ _. front.feed)) front.within

pub line_end-within : (xs : List ℕ) (end : ℕ) → line_end xs ≡ Some end → end < length xs
line_end-within xs end is = (ends_at (line_limit + 1) xs end is).within

pub line_end-more : (xs ys : List ℕ) (end : ℕ) → line_end xs ≡ Some end → line_end (xs ++ ys) ≡ Some end
line_end-more xs ys end is = found (line_limit + 1) (xs ++ ys) end (EndsAt-more (line_limit + 1) xs ys end (ends_at (line_limit + 1) xs end is))

pub line_end-take : (m : ℕ) (xs : List ℕ) (end : ℕ) → end < m → line_end xs ≡ Some end → line_end (take m xs) ≡ Some end
line_end-take m xs end lt is = found (line_limit + 1) (take m xs) end (EndsAt-take (line_limit + 1) m xs end lt (ends_at (line_limit + 1) xs end is))

-- a line that is too long stays so
pub line_end-long : (xs ys : List ℕ) → line_end xs ≡ None → line_limit < length xs → line_end (xs ++ ys) ≡ None
line_end-long xs ys none long = ap (λ (l : List ℕ). position is_line_feed l) (take-append-le (line_limit + 1) xs ys (omega arith)) ∙ none
