-- Going through the operations of images one by one, and their order.
use Rattle.slp_tree.proofs.Common.{◌≡◌, ◌<◌, ◌+◌, ◌-◌, ℕ, suc, List, [], ◌∷◌, ◌++◌, map, length, append_assoc, Bool, true, false, cond, refl, sym, ◌∙◌, ap, arith, filter, sum_by, IsPermutation, range_with_len, IsSortedBy, nat_cmp, ordering_then, is_lt, Ordering, Less, Equal, Greater, nat_cmp_total, nat_list_cmp_total, then_total, on_total, back_total, exact_unsigned, exact_bytes, Version, is_due, ranked, due_order}
use Rattle.std.specs.Cmp.{IsTotalOrder}
use Rattle.std.specs.Cmp.Lexicographic.{slice_cmp}
use Rattle.site_types.specs.declared.image.ImageRecord.{ImageRecord}
use Rattle.slp_tree.specs.declared.due.Ranked.{Ranked}
use Rattle.slp_tree.specs.Sorting.{in_order}
use Rattle.slp_tree.proofs.SortingLemmas.{sorted_is}

-- The order is total, and tells all due operations apart.

pub due_order_total : IsTotalOrder due_order
due_order_total =
    then_total (back_total (on_total (λ (r : Ranked). r.priority) nat_cmp_total))
    (then_total (on_total (λ (r : Ranked). r.due.id.time) nat_cmp_total)
    (then_total (on_total (λ (r : Ranked). r.due.id.client) nat_list_cmp_total)
    (on_total (λ (r : Ranked). r.due.op) nat_cmp_total)))

tied_first : (o p : Ordering) → ordering_then o p ≡ Equal → o ≡ Equal
tied_first Less p tied = absurd (cc)
tied_first Equal p tied = refl
tied_first Greater p tied = absurd (cc)

tied_second : (o p : Ordering) → ordering_then o p ≡ Equal → p ≡ Equal
tied_second Less p tied = absurd (cc)
tied_second Equal p tied = tied
tied_second Greater p tied = absurd (cc)

due_order_exact : (a b : Ranked) → due_order a b ≡ Equal → a ≡ b
due_order_exact a b tied =
    let by_priority : Ordering = nat_cmp b.priority a.priority in
    let by_time : Ordering = nat_cmp a.due.id.time b.due.id.time in
    let by_client : Ordering = slice_cmp nat_cmp a.due.id.client b.due.id.client in
    let by_index : Ordering = nat_cmp a.due.op b.due.op in
    let tied_2 = tied_second by_priority (ordering_then by_time (ordering_then by_client by_index)) tied in
    let tied_3 = tied_second by_time (ordering_then by_client by_index) tied_2 in
    let priority : b.priority ≡ a.priority = exact_unsigned b.priority a.priority (tied_first by_priority (ordering_then by_time (ordering_then by_client by_index)) tied) in
    let time : a.due.id.time ≡ b.due.id.time = exact_unsigned a.due.id.time b.due.id.time (tied_first by_time (ordering_then by_client by_index) tied_2) in
    let client : a.due.id.client ≡ b.due.id.client = exact_bytes a.due.id.client b.due.id.client (tied_first by_client by_index tied_3) in
    let index : a.due.op ≡ b.due.op = exact_unsigned a.due.op b.due.op (tied_second by_client by_index tied_3) in
    λ j. record { priority = sym priority j; due = record { id = record { client = client j; time = time j }; op = index j } }

pub due_sorted : (xs ys : List Ranked) → IsPermutation xs ys → IsSortedBy (λ x y. is_lt (due_order x y)) ys → ys ≡ in_order due_order xs
due_sorted xs ys moved sorted = sorted_is due_order due_order_total due_order_exact xs ys moved sorted

-- An image's operations, from an index on.

abbrev pub due_from : ImageRecord → Version → List Bool → ℕ → List Ranked
due_from image version open_windows index = map (ranked image version.priority) (filter (is_due image version.operations open_windows) (range_with_len index (length version.operations - index)))

range_here : (i n : ℕ) → i < n → range_with_len i (n - i) ≡ i ∷ range_with_len (i + 1) (n - (i + 1))
range_here i n lt = ap (range_with_len i) (one_more i n lt)
  where
    one_more : (k m : ℕ) → k < m → m - k ≡ suc (m - (k + 1))
    one_more k m below = omega arith

module _ (image : ImageRecord) (version : Version) (open_windows : List Bool) (i : ℕ) (before whole : List Ranked) where
  pub due_pushed : (after : List Ranked) → i < length version.operations → is_due image version.operations open_windows i ≡ true → before ++ due_from image version open_windows i ≡ whole → after ≡ before ++ ranked image version.priority i ∷ [] → after ++ due_from image version open_windows (i + 1) ≡ whole
  due_pushed after lt due all after_is =
      let P : ℕ → Bool = is_due image version.operations open_windows in
      let rest : List ℕ = filter P (range_with_len (i + 1) (length version.operations - (i + 1))) in
      let here : due_from image version open_windows i ≡ ranked image version.priority i ∷ due_from image version open_windows (i + 1) =
      ap (λ (l : List ℕ). map (ranked image version.priority) (filter P l)) (range_here i (length version.operations) lt)
      ∙ (λ j. map (ranked image version.priority) (cond (due j) (i ∷ rest) rest)) in
      ap (λ (l : List Ranked). l ++ due_from image version open_windows (i + 1)) after_is
      ∙ append_assoc before (ranked image version.priority i ∷ []) (due_from image version open_windows (i + 1))
      ∙ ap (λ (l : List Ranked). before ++ l) (sym here)
      ∙ all

  pub due_passed : i < length version.operations → is_due image version.operations open_windows i ≡ false → before ++ due_from image version open_windows i ≡ whole → before ++ due_from image version open_windows (i + 1) ≡ whole
  due_passed lt other all =
      let P : ℕ → Bool = is_due image version.operations open_windows in
      let rest : List ℕ = filter P (range_with_len (i + 1) (length version.operations - (i + 1))) in
      let here : due_from image version open_windows i ≡ due_from image version open_windows (i + 1) =
      ap (λ (l : List ℕ). map (ranked image version.priority) (filter P l)) (range_here i (length version.operations) lt)
      ∙ (λ j. map (ranked image version.priority) (cond (other j) (i ∷ rest) rest)) in
      ap (λ (l : List Ranked). before ++ l) (sym here) ∙ all

-- The states of images.

abbrev pub count_states : List ImageRecord → ℕ
count_states images = sum_by (λ (image : ImageRecord). length image.states) images
