-- The links as the slots change.
use Rattle.std.proofs.Common.{◌≡◌, ◌≢◌, ℕ, ◌+◌, ◌-◌, ◌<◌, ◌≤◌, inl, inr, ⊎_elim, List, ◌++◌, length, take, replicate, get_or, set, Some, None, refl, sym, ◌∙◌, ap, subst, arith, length-append}
use Rattle.std.specs.Prelude.{Option, SomeIff, slice_index}
use Rattle.std.proofs.lemmas.Bool.{cases_eq, cases_lt, cases_order}
use Rattle.std.proofs.lemmas.Bool.Decides.{nat_tests}
use Rattle.std.proofs.lemmas.List.{get_or-set_same, get_or-set_other, get_or_past, get_or_append_left, get_or-append_right, length-set, length-replicate, get_or-replicate, take_all}
use Rattle.segment_pool.specs.declared.slot.Slot.{Slot}
use Rattle.segment_pool.specs.Slots.{at_slot}
use Rattle.segment_pool.specs.Index.{leading_bits, bits_at, bits_of, LinksTo, IsPlaceOf, bound_of, IsIndex, IsNextBelow}

pub at-set_same : (t : List (Option Slot)) (s : ℕ) (x : Option Slot) → s < length t → at_slot (set t s x) s ≡ x
at-set_same t s x within = get_or-set_same t s x None within

pub at-set_other : (t : List (Option Slot)) (s u : ℕ) (x : Option Slot) → u ≢ s → at_slot (set t s x) u ≡ at_slot t u
at-set_other t s u x ne = get_or-set_other t s u x None ne

free_past : (n i : ℕ) (x : Option Slot) → get_or (replicate n x) i x ≡ x
free_past n i x = ⊎_elim (λ within. get_or-replicate n i x x within) (λ past. get_or_past (replicate n x) i x (omega (arith, past, length-replicate n x))) (cases_lt i n)

-- what is known of slots stays where free ones are added
pub at-grown : (t : List (Option Slot)) (n u : ℕ) → at_slot (t ++ replicate n None) u ≡ at_slot t u
at-grown t n u =
    ⊎_elim (λ within. get_or_append_left t (replicate n None) None u within)
    (λ past. get_or-append_right t (replicate n None) (length t) u None refl past ∙ free_past n (u - length t) None ∙ sym (get_or_past t u None past))
    (cases_lt u (length t))

pub within_bits : (t : List (Option Slot)) (u b : ℕ) → bits_of t u ≡ Some b → u < length t
within_bits t u b is = ⊎_elim (λ within. within) (λ past. let none : bits_of t u ≡ None = ap bits_at (get_or_past t u None past) in absurd (cc (none, is))) (cases_lt u (length t))

free_bits : (t : List (Option Slot)) (u : ℕ) → at_slot t u ≡ None → bits_of t u ≡ None
free_bits t u is = ap bits_at is

-- a slot with bits isn't free
other_than_free : (t : List (Option Slot)) (u s b : ℕ) → bits_of t u ≡ Some b → bits_of t s ≡ None → u ≢ s
other_than_free t u s b is none eq = let same : bits_of t u ≡ bits_of t s = ap (λ (k : ℕ). bits_of t k) eq in absurd (cc (same, is, none))

one_bits : (o : Option ℕ) (a b : ℕ) → o ≡ Some a → o ≡ Some b → a ≡ b
one_bits o a b x y = cc

bound_first : (p : ℕ) → p < 262144 → bound_of p ≡ 16777216
bound_first p lt = grind (arith, nat_tests)

bound_next : (p : ℕ) → 262144 ≤ p → bound_of p ≡ p - 262144
bound_next p le = grind (arith, nat_tests)

pub first_place : (t : List (Option Slot)) (b : ℕ) → b < 262144 → IsPlaceOf t b b
first_place t b few = inl (few, refl)

pub next_place : (t : List (Option Slot)) (b s : ℕ) → bits_of t s ≡ Some b → IsPlaceOf t b (262144 + s)
next_place t b s is = inr (omega arith, ap (λ (k : ℕ). bits_of t k) (let z : 262144 + s - 262144 ≡ s = omega arith in z) ∙ is)

-- a place has the bits of one list
one_list : (t : List (Option Slot)) (a b p : ℕ) → IsPlaceOf t a p → IsPlaceOf t b p → a ≡ b
one_list t a b p (inl x) (inl y) = sym x.1 ∙ y.1
one_list t a b p (inl x) (inr y) = absurd (omega (arith, x.0, y.0))
one_list t a b p (inr x) (inl y) = absurd (omega (arith, x.0, y.0))
one_list t a b p (inr x) (inr y) = one_bits (bits_of t (p - 262144)) a b x.1 y.1

same_place : (t u : List (Option Slot)) (b p : ℕ) → ((s : ℕ) → 262144 ≤ p → s ≡ p - 262144 → bits_of u s ≡ Some b → bits_of t s ≡ Some b) → IsPlaceOf u b p → IsPlaceOf t b p
same_place t u b p same (inl x) = inl x
same_place t u b p same (inr x) = inr (x.0, same (p - 262144) x.0 refl x.1)

-- where a link leads
pub next_below : (t : List (Option Slot)) (b bound link : ℕ) (next : Option ℕ) → LinksTo t b bound link → SomeIff next (1 ≤ link) (link - 1) → IsNextBelow t b bound next
next_below t b bound link None l none = λ s upto. l.none_between s (⊎_elim (λ is. omega (arith, is)) (λ some. absurd (none some)) (cases_lt link 1)) upto
next_below t b bound link (Some v) l some =
    let is : link - 1 ≡ v = sym some.1 in
    (omega (arith, some.0, some.1, l.below), ap (λ (k : ℕ). bits_of t k) (sym is) ∙ l.here (λ none. omega (arith, none, some.0)), λ s from upto. l.none_between s (omega (arith, from, is)) upto)

module _ (t : List (Option Slot)) (links : List ℕ) (index : IsIndex t links) where
  pub place_within : (b p : ℕ) → IsPlaceOf t b p → p < length links
  place_within b p (inl x) = omega (arith, x.0, index.length_is)
  place_within b p (inr x) = omega (arith, x.0, within_bits t (p - 262144) b x.1, index.length_is)

  bound_limit : (b p : ℕ) → IsPlaceOf t b p → bound_of p ≤ 16777216
  bound_limit b p (inl x) = omega (arith, bound_first p x.0)
  bound_limit b p (inr x) = omega (arith, x.0, bound_next p x.0, within_bits t (p - 262144) b x.1, index.short)

  -- no link of a list leads past a slot of it
  not_past : (b p q n : ℕ) → IsPlaceOf t b p → IsPlaceOf t b q → slice_index links q ≤ n → n ≤ bound_of p → bound_of p < bound_of q → ⊥
  not_past b p q n (inl x) at_q from upto lt = omega (arith, bound_first p x.0, bound_limit b q at_q, lt)
  not_past b p q n (inr x) at_q from upto lt =
      let is : bound_of p ≡ p - 262144 = bound_next p x.0 in
      (index.links_on b q at_q).none_between (p - 262144) (omega (arith, from, upto, is)) (omega (arith, lt, is)) x.1

  one_bound : (b p q : ℕ) → IsPlaceOf t b p → IsPlaceOf t b q → bound_of p ≡ bound_of q → p ≡ q
  one_bound b p q (inl x) (inl y) same = x.1 ∙ sym y.1
  one_bound b p q (inl x) (inr y) same = absurd (omega (arith, bound_first p x.0, bound_next q y.0, within_bits t (q - 262144) b y.1, index.short, same))
  one_bound b p q (inr x) (inl y) same = absurd (omega (arith, bound_next p x.0, bound_first q y.0, within_bits t (p - 262144) b x.1, index.short, same))
  one_bound b p q (inr x) (inr y) same = omega (arith, bound_next p x.0, bound_next q y.0, x.0, y.0, same)

  -- one link of a list leads past a number or to it
  only_one : (b p q n : ℕ) → IsPlaceOf t b p → IsPlaceOf t b q → slice_index links p ≤ n → n ≤ bound_of p → slice_index links q ≤ n → n ≤ bound_of q → p ≡ q
  only_one b p q n at_p at_q from_p upto_p from_q upto_q =
      ⊎_elim (λ same. one_bound b p q at_p at_q same)
      (λ other. ⊎_elim (λ lt. absurd (not_past b p q n at_p at_q from_q upto_p lt)) (λ gt. absurd (not_past b q p n at_q at_p from_p upto_q gt)) other)
      (cases_order (bound_of p) (bound_of q))

  -- a link that leads past a slot leads to a place of its list
  pub followed : (b p s link : ℕ) → IsPlaceOf t b p → link ≡ slice_index links p → s + 1 < link → IsPlaceOf t b (262144 + link - 1) × (s < bound_of (262144 + link - 1)) × (bound_of (262144 + link - 1) < bound_of p)
  followed b p s link at_p is past =
      let l = index.links_on b p at_p in
      let here : bits_of t (link - 1) ≡ Some b = ap (λ (k : ℕ). bits_of t (k - 1)) is ∙ l.here (λ zero_link. omega (arith, is, past, zero_link)) in
      let place : 262144 + link - 1 ≡ 262144 + (link - 1) = omega (arith, past) in
      let bound : bound_of (262144 + link - 1) ≡ link - 1 = bound_next (262144 + link - 1) (omega (arith, past)) ∙ (let z : 262144 + link - 1 - 262144 ≡ link - 1 = omega (arith, past) in z) in
      (subst (λ (k : ℕ). IsPlaceOf t b k) (sym place) (next_place t b (link - 1) here), omega (arith, bound, past), omega (arith, bound, past, is, l.below))

  -- where a list begins
  pub begins : (b bits link : ℕ) (next : Option ℕ) → b ≡ bits → b < 262144 → link ≡ slice_index links b → SomeIff next (1 ≤ link) (link - 1) → IsNextBelow t bits 16777216 next
  begins b bits link next is few link_is led =
      next_below t bits 16777216 link next
      (subst (λ (k : ℕ). LinksTo t k 16777216 link) is (subst (λ (k : ℕ). LinksTo t b k link) (bound_first b few) (subst (λ (k : ℕ). LinksTo t b (bound_of b) k) (sym link_is) (index.links_on b b (first_place t b few))))) led

  -- and how it goes on
  pub leads_on : (s bits link : ℕ) (next : Option ℕ) → bits_of t s ≡ Some bits → link ≡ slice_index links (262144 + s) → SomeIff next (1 ≤ link) (link - 1) → IsNextBelow t bits s next
  leads_on s bits link next is link_is led =
      let bound : bound_of (262144 + s) ≡ s = bound_next (262144 + s) (omega arith) ∙ (let z : 262144 + s - 262144 ≡ s = omega arith in z) in
      next_below t bits s link next
      (subst (λ (k : ℕ). LinksTo t bits k link) bound (subst (λ (k : ℕ). LinksTo t bits (bound_of (262144 + s)) k) (sym link_is) (index.links_on bits (262144 + s) (next_place t bits s is)))) led

  pub kept : (u : List (Option Slot)) → length u ≡ length t → ((s : ℕ) → bits_of u s ≡ bits_of t s) → IsIndex u links
  kept u long same = record {
    length_is = index.length_is ∙ ap (λ (k : ℕ). 262144 + k) (sym long);
    short = omega (arith, long, index.short);
    links_on = λ b p at_p.
        let l = index.links_on b p (same_place t u b p (λ s _ _ is. sym (same s) ∙ is) at_p) in
        record { below = l.below; none_between = λ s from upto is. l.none_between s from upto (sym (same s) ∙ is); here = λ some. same (slice_index links p - 1) ∙ l.here some };
  }

  -- another entry with the same digest
  pub changed : (s : ℕ) (what : Slot) → bits_of t s ≡ Some (leading_bits what.digest) → IsIndex (set t s (Some what)) links
  changed s what is = kept (set t s (Some what)) (length-set t s (Some what)) (λ v. ⊎_elim
      (λ same.
      let now : bits_of (set t s (Some what)) v ≡ Some (leading_bits what.digest) = ap (λ (k : ℕ). bits_of (set t s (Some what)) k) same ∙ ap bits_at (at-set_same t s (Some what) (within_bits t s (leading_bits what.digest) is)) in
      now ∙ sym is ∙ ap (λ (k : ℕ). bits_of t k) (sym same))
      (λ ne. ap bits_at (at-set_other t s v (Some what) ne)) (cases_eq v s))

  pub grown : (n : ℕ) → length t + n ≤ 16777216 → IsIndex (t ++ replicate n None) (links ++ replicate n 0)
  grown n few =
      let u : List (Option Slot) = t ++ replicate n None in
      let same : (s : ℕ) → bits_of u s ≡ bits_of t s = λ s. ap bits_at (at-grown t n s) in
      record {
        length_is = omega (arith, index.length_is, length-append links (replicate n 0), length-append t (replicate n None), length-replicate {A = ℕ} n 0, length-replicate {A = Option Slot} n None);
        short = omega (arith, few, length-append t (replicate n None), length-replicate {A = Option Slot} n None);
        links_on = λ b p at_p.
            let before = same_place t u b p (λ s _ _ is. sym (same s) ∙ is) at_p in
            let l = index.links_on b p before in
            let link : slice_index (links ++ replicate n 0) p ≡ slice_index links p = get_or_append_left links (replicate n 0) 0 p (place_within b p before) in
            record {
              below = omega (arith, l.below, link);
              none_between = λ s from upto is. l.none_between s (omega (arith, from, link)) upto (sym (same s) ∙ is);
              here = λ some. ap (λ (k : ℕ). bits_of u (k - 1)) link ∙ same (slice_index links p - 1) ∙ l.here (λ none. some (link ∙ none));
            };
      }

  -- both lists were made longer
  pub grown_to : (n m k : ℕ) (u : List (Option Slot)) (more : List ℕ) → m ≡ length t → k ≡ length links → length t ≤ n → n ≤ 16777216 → u ≡ take n t ++ replicate (n - m) None → more ≡ take (262144 + n) links ++ replicate (262144 + n - k) 0 → IsIndex u more
  grown_to n m k u more m_is k_is long few u_is more_is =
      let slots_now : u ≡ t ++ replicate (n - length t) None = u_is ∙ (λ i. take_all n t long i ++ replicate (n - m_is i) None) in
      let count : 262144 + n - k ≡ n - length t = omega (arith, k_is, index.length_is) in
      let links_now : more ≡ links ++ replicate (n - length t) 0 = more_is ∙ (λ i. take_all (262144 + n) links (omega (arith, index.length_is, long)) i ++ replicate (count i) 0) in
      subst (λ (l : List ℕ). IsIndex u l) (sym links_now) (subst (λ (l : List (Option Slot)). IsIndex l (links ++ replicate (n - length t) 0)) (sym slots_now) (grown (n - length t) (omega (arith, long, few))))

  module _ (s b place link : ℕ) (at_place : IsPlaceOf t b place) (within : s < length t) (bound : s < bound_of place) (link_is : link ≡ slice_index links place) (near : link ≤ s + 1) where
    old_list : LinksTo t b (bound_of place) (slice_index links place)
    old_list = index.links_on b place at_place

    -- a free slot gets its link
    module _ (what : Slot) (bits_are : b ≡ leading_bits what.digest) (free : at_slot t s ≡ None) where
      here_now : bits_of (set t s (Some what)) s ≡ Some b
      here_now = ap bits_at (at-set_same t s (Some what) within) ∙ ap (λ (k : ℕ). Some k) (sym bits_are)

      elsewhere : (v : ℕ) → v ≢ s → bits_of (set t s (Some what)) v ≡ bits_of t v
      elsewhere v ne = ap bits_at (at-set_other t s v (Some what) ne)

      lower : link ≤ s
      lower = ⊎_elim (λ same. absurd (let here = old_list.here (λ none. omega (arith, none, link_is, same)) in
          other_than_free t (slice_index links place - 1) s b here (free_bits t s free) (omega (arith, link_is, same)))) (λ ne. omega (arith, near, ne)) (cases_eq link (s + 1))

      not_own : place ≢ 262144 + s
      not_own eq = omega (arith, bound, eq, bound_next place (omega (arith, eq)))

      own_link : LinksTo (set t s (Some what)) b s link
      own_link = record {
        below = lower;
        none_between = λ v from upto is. old_list.none_between v (omega (arith, from, link_is)) (omega (arith, upto, bound)) (sym (elsewhere v (λ e. omega (arith, upto, e))) ∙ is);
        here = λ some. elsewhere (link - 1) (λ e. omega (arith, lower, some, e)) ∙ ap (λ (k : ℕ). bits_of t (k - 1)) link_is ∙ old_list.here (λ none. some (link_is ∙ none));
      }

      led_to : LinksTo (set t s (Some what)) b (bound_of place) (s + 1)
      led_to = record {
        below = omega (arith, bound);
        none_between = λ v from upto is. old_list.none_between v (omega (arith, from, lower, link_is)) upto (sym (elsewhere v (λ e. omega (arith, from, e))) ∙ is);
        here = λ some. ap (λ (k : ℕ). bits_of (set t s (Some what)) k) (let z : s + 1 - 1 ≡ s = omega arith in z) ∙ here_now;
      }

      other_link : (c q : ℕ) → IsPlaceOf t c q → q ≢ place → LinksTo (set t s (Some what)) c (bound_of q) (slice_index links q)
      other_link c q at_q ne =
          let l = index.links_on c q at_q in
          record {
            below = l.below;
            none_between = λ v from upto is. ⊎_elim
                (λ same.
                let equal : c ≡ b = one_bits (bits_of (set t s (Some what)) s) c b (ap (λ (k : ℕ). bits_of (set t s (Some what)) k) (sym same) ∙ is) here_now in
                ne (only_one b q place s (subst (λ (k : ℕ). IsPlaceOf t k q) equal at_q) at_place (omega (arith, from, same)) (omega (arith, upto, same)) (omega (arith, lower, link_is)) (omega (arith, bound))))
                (λ other. l.none_between v from upto (sym (elsewhere v other) ∙ is)) (cases_eq v s);
            here = λ some. let is = l.here some in elsewhere (slice_index links q - 1) (other_than_free t (slice_index links q - 1) s c is (free_bits t s free)) ∙ is;
          }

      link_here : slice_index (set (set links (262144 + s) link) place (s + 1)) place ≡ s + 1
      link_here = get_or-set_same (set links (262144 + s) link) place (s + 1) 0 (omega (arith, place_within b place at_place, length-set links (262144 + s) link))

      link_own : slice_index (set (set links (262144 + s) link) place (s + 1)) (262144 + s) ≡ link
      link_own = get_or-set_other (set links (262144 + s) link) place (262144 + s) (s + 1) 0 (λ eq. not_own (sym eq)) ∙ get_or-set_same links (262144 + s) link 0 (omega (arith, within, index.length_is))

      link_other : (q : ℕ) → q ≢ place → q ≢ 262144 + s → slice_index (set (set links (262144 + s) link) place (s + 1)) q ≡ slice_index links q
      link_other q ne ne' = get_or-set_other (set links (262144 + s) link) place q (s + 1) 0 ne ∙ get_or-set_other links (262144 + s) q link 0 ne'

      held_on : (c q : ℕ) → IsPlaceOf (set t s (Some what)) c q → LinksTo (set t s (Some what)) c (bound_of q) (slice_index (set (set links (262144 + s) link) place (s + 1)) q)
      held_on c q at_q = ⊎_elim
          (λ own.
          let equal : b ≡ c = one_list (set t s (Some what)) b c q (subst (λ (k : ℕ). IsPlaceOf (set t s (Some what)) b k) (sym own) (next_place (set t s (Some what)) b s here_now)) at_q in
          let bounded : s ≡ bound_of q = (let z : s ≡ 262144 + s - 262144 = omega arith in z) ∙ sym (bound_next (262144 + s) (omega arith)) ∙ ap bound_of (sym own) in
          let linked : link ≡ slice_index (set (set links (262144 + s) link) place (s + 1)) q = sym link_own ∙ ap (λ (k : ℕ). slice_index (set (set links (262144 + s) link) place (s + 1)) k) (sym own) in
          subst (λ (k : ℕ). LinksTo (set t s (Some what)) c (bound_of q) k) linked (subst (λ (k : ℕ). LinksTo (set t s (Some what)) c k link) bounded (subst (λ (k : ℕ). LinksTo (set t s (Some what)) k s link) equal own_link)))
          (λ ne'.
          let before : IsPlaceOf t c q = same_place t (set t s (Some what)) c q (λ v ge is bits. sym (elsewhere v (λ eq. ne' (omega (arith, ge, is, eq)))) ∙ bits) at_q in
          ⊎_elim
          (λ same.
          let equal : b ≡ c = one_list t b c q (subst (λ (k : ℕ). IsPlaceOf t b k) (sym same) at_place) before in
          subst (λ (k : ℕ). LinksTo (set t s (Some what)) c (bound_of k) (slice_index (set (set links (262144 + s) link) place (s + 1)) k)) (sym same)
          (subst (λ (k : ℕ). LinksTo (set t s (Some what)) c (bound_of place) k) (sym link_here) (subst (λ (k : ℕ). LinksTo (set t s (Some what)) k (bound_of place) (s + 1)) equal led_to)))
          (λ ne. subst (λ (k : ℕ). LinksTo (set t s (Some what)) c (bound_of q) k) (sym (link_other q ne ne')) (other_link c q before ne))
          (cases_eq q place))
          (cases_eq q (262144 + s))

      pub now_held : IsIndex (set t s (Some what)) (set (set links (262144 + s) link) place (s + 1))
      now_held = record {
        length_is = omega (arith, index.length_is, length-set (set links (262144 + s) link) place (s + 1), length-set links (262144 + s) link, length-set t s (Some what));
        short = omega (arith, index.short, length-set t s (Some what));
        links_on = held_on;
      }

    -- a held slot loses its link
    module _ (was : bits_of t s ≡ Some b) where
      here_free : bits_of (set t s None) s ≡ None
      here_free = ap bits_at (at-set_same t s None within)

      others : (v : ℕ) → v ≢ s → bits_of (set t s None) v ≡ bits_of t v
      others v ne = ap bits_at (at-set_other t s v None ne)

      not_here : (v c : ℕ) → bits_of (set t s None) v ≡ Some c → v ≢ s
      not_here v c is = other_than_free (set t s None) v s c is here_free

      leads_here : link ≡ s + 1
      leads_here = ⊎_elim (λ below. absurd (old_list.none_between s (omega (arith, below, link_is)) bound was)) (λ above. omega (arith, near, above)) (cases_lt link (s + 1))

      after : LinksTo t b s (slice_index links (262144 + s))
      after = subst (λ (k : ℕ). LinksTo t b k (slice_index links (262144 + s))) (bound_next (262144 + s) (omega arith) ∙ (let z : 262144 + s - 262144 ≡ s = omega arith in z)) (index.links_on b (262144 + s) (next_place t b s was))

      joined : LinksTo (set t s None) b (bound_of place) (slice_index links (262144 + s))
      joined = record {
        below = omega (arith, after.below, bound);
        none_between = λ v from upto is.
            let ne = not_here v b is in
            let bits : bits_of t v ≡ Some b = sym (others v ne) ∙ is in
            ⊎_elim (λ lt. after.none_between v from lt bits) (λ ge. old_list.none_between v (omega (arith, ge, ne, leads_here, link_is)) upto bits) (cases_lt v s);
        here = λ some. others (slice_index links (262144 + s) - 1) (λ e. omega (arith, after.below, some, e)) ∙ after.here some;
      }

      other_left : (c q : ℕ) → IsPlaceOf t c q → q ≢ place → LinksTo (set t s None) c (bound_of q) (slice_index links q)
      other_left c q at_q ne =
          let l = index.links_on c q at_q in
          record {
            below = l.below;
            none_between = λ v from upto is. l.none_between v from upto (sym (others v (not_here v c is)) ∙ is);
            here = λ some.
                let is = l.here some in
                let away : slice_index links q - 1 ≢ s = λ eq.
                let equal : c ≡ b = one_bits (bits_of t s) c b (ap (λ (k : ℕ). bits_of t k) (sym eq) ∙ is) was in
                ne (only_one b q place (s + 1) (subst (λ (k : ℕ). IsPlaceOf t k q) equal at_q) at_place (omega (arith, eq, some)) (omega (arith, eq, some, l.below)) (omega (arith, leads_here, link_is)) (omega (arith, bound))) in
                others (slice_index links q - 1) away ∙ is;
          }

      freed_on : (c q : ℕ) → IsPlaceOf (set t s None) c q → LinksTo (set t s None) c (bound_of q) (slice_index (set links place (slice_index links (262144 + s))) q)
      freed_on c q at_q =
          let before : IsPlaceOf t c q = same_place t (set t s None) c q (λ v _ _ bits. sym (others v (not_here v c bits)) ∙ bits) at_q in
          ⊎_elim
          (λ same.
          let equal : b ≡ c = one_list t b c q (subst (λ (k : ℕ). IsPlaceOf t b k) (sym same) at_place) before in
          let linked : slice_index links (262144 + s) ≡ slice_index (set links place (slice_index links (262144 + s))) place = sym (get_or-set_same links place (slice_index links (262144 + s)) 0 (place_within b place at_place)) in
          subst (λ (k : ℕ). LinksTo (set t s None) c (bound_of k) (slice_index (set links place (slice_index links (262144 + s))) k)) (sym same)
          (subst (λ (k : ℕ). LinksTo (set t s None) c (bound_of place) k) linked (subst (λ (k : ℕ). LinksTo (set t s None) k (bound_of place) (slice_index links (262144 + s))) equal joined)))
          (λ ne. subst (λ (k : ℕ). LinksTo (set t s None) c (bound_of q) k) (sym (get_or-set_other links place q (slice_index links (262144 + s)) 0 ne)) (other_left c q before ne))
          (cases_eq q place)

      pub now_free : IsIndex (set t s None) (set links place (slice_index links (262144 + s)))
      now_free = record {
        length_is = omega (arith, index.length_is, length-set links place (slice_index links (262144 + s)), length-set t s None);
        short = omega (arith, index.short, length-set t s None);
        links_on = freed_on;
      }
