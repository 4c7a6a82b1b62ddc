-- A call, from the seat at rest to the seat at rest again.
use Rattle.std.proofs.Common.{◌≡◌, ℕ, ◌+◌, ◌++◌, true, false, List, [], ◌∷◌, refl, sym, ap, ◌∙◌, subst, arith, append_assoc, eq-eqb}
use Rattle.std.specs.Prelude.{Option, Some, None, MatchBool}
use Rattle.atomic_table.specs.Table.{Me}
use Rattle.atomic_table.specs.Seated.{TableId}
use Rattle.step_turn.specs.Meaning.{Meaning}
use Rattle.step_turn.specs.Histories.{made_by, turn_of, Every, StartsWith, IsLegal, Reaches}
use Rattle.step_turn.specs.Seats.{Answered, Met}
use Rattle.step_turn.specs.Order.{seated, noted, joined, view_of, Looked, Advanced, Made, first_number}
use Rattle.step_turn.specs.declared.entry.Call.{Call}
use Rattle.step_turn.specs.declared.entry.Entry.{Entry}
use Rattle.step_turn.specs.declared.entry.Entry.TheVariants.{Called, Reopened}
use Rattle.step_turn.specs.declared.view.View.{View}
use Rattle.step_turn.proofs.Growth.{reaches-legal}
use Rattle.step_turn.proofs.Keeping.{made_more}

module _ {S Q A : Type 0} where
  -- the view of a badge that has become a seat
  pub placed : (view : View Q A → View Q A) (views views' : List (View Q A)) (me : Me (Option S) (View Q A)) → views ≡ view (view_of views) ∷ [] → views' ≡ views → views' ≡ me.0 ∷ [] → me.1 ≡ [] → me ≡ (view (view_of views), [])
  placed view views views' me is same here slots =
      let e : me.0 ≡ view (view_of views) = ap view_of (sym here ∙ same ∙ is) in
      λ k. (e k, slots k)

module _ {S Q A : Type 0} (M : Meaning S Q A) (start : S) (seats number : ℕ) (own : List (Call Q A)) (seen : List (Entry Q A)) (heard : List (List (Entry Q A))) (n : ℕ) (me : Me (Option S) (View Q A)) where
  abbrev Found : Type 0
  Found = Looked (IsLegal M start) (Reaches M start) (seated seats number own seen heard (Some n) false, []) n me

  -- the turn is the seat's, and it holds the object
  pub has_begun : (l : Found) → (object : S) × (me ≡ (seated seats number own l.seen [] (Some n) true, (0, Some object) ∷ [])) × Reaches M start l.seen object
  has_begun l =
      subst (λ b. MatchBool b ((object : S) × (me ≡ (seated seats number own l.seen [] (Some n) true, (0, Some object) ∷ [])) × Reaches M start l.seen object) (me ≡ (seated seats number own l.seen [] (Some n) false, []))) (eq-eqb n n refl) l.turn

  abbrev front : Option (ℕ × ℕ) → List (Entry Q A)
  front None = []
  front (Some counts) = Reopened counts.0 counts.1 ∷ []

  in_front : (r : Option (ℕ × ℕ)) (c : Call Q A) → turn_of r c ≡ front r ++ Called c ∷ []
  in_front None c = refl
  in_front (Some counts) c = refl

  pub ends : (asked : Q) (answer : A) (after : Me (Option S) (View Q A)) (l : Found) → Advanced (Made M start me.0.seen (first_number me.0.chairs) asked answer) (me.0, []) after
      → (own' : List (Call Q A)) × (seen' : List (Entry Q A)) × (after ≡ (seated seats number own' seen' [] None false, []))
      × ((turn : TableId) → Answered M start record { number = number; seen = seen; own = own; turn = turn } asked (n + 1) answer record { number = number; seen = seen'; own = own'; turn = turn })
  ends asked answer after l a =
      let begun = has_begun l in
      let b = subst (λ (m : Me (Option S) (View Q A)). Advanced (Made M start m.0.seen (first_number m.0.chairs) asked answer) (m.0, []) after) begun.1 a in
      let r = b.0 in
      let c = b.1 in
      let added = b.2.1 in
      let own_is : made_by number l.seen ≡ own = l.own.0 in (
        own ++ c ∷ [],
        l.seen ++ turn_of r c,
        b.3,
        λ turn. record {
          call = c;
          number_is = let e = l.count in let k = added.number_is in omega (arith, e, k);
          seat_is = added.seat_is;
          asked_is = added.asked_is;
          answer_is = added.answer_is;
          between = l.mine.0 ++ front r;
          seen = ap (λ s. s ++ turn_of r c) l.mine.1 ∙ ap (λ s. (seen ++ l.mine.0) ++ s) (in_front r c) ∙ sym (append_assoc (seen ++ l.mine.0) (front r) (Called c ∷ [])) ∙ ap (λ s. s ++ Called c ∷ []) (append_assoc seen l.mine.0 (front r));
          legal = reaches-legal M start (l.seen ++ turn_of r c) b.2.0 added.reaches;
          own = refl;
          once = made_more M start seats number l.seen r c added.seat_is ∙ ap (λ s. s ++ c ∷ []) own_is;
        },
      )

every_behind : {X : Type 0} (P : X → Type 0) (xs ys : List X) → Every P (xs ++ ys) → Every P ys
every_behind P [] ys h = h
every_behind P (x ∷ xs) ys h = every_behind P xs ys h.1

module _ {S Q A : Type 0} (M : Meaning S Q A) (start : S) where
  pub meets : (seats number : ℕ) (own : List (Call Q A)) (seen : List (Entry Q A)) (heard : List (List (Entry Q A))) (nseats : ℕ) (nseen : List (Entry Q A)) (found : ℕ) (me : Me (Option S) (View Q A))
      → Looked (IsLegal M start) (Reaches M start) (joined (seated seats number own seen heard None false) (noted nseats nseen), []) found me
      → (seen' : List (Entry Q A)) × (me ≡ (seated seats number own seen' [] None false, []))
      × ((turn : TableId) → Met M start record { number = number; seen = seen; own = own; turn = turn } record { seen = nseen; turn = turn } record { number = number; seen = seen'; own = own; turn = turn })
  meets seats number own seen heard nseats nseen found me l =
      let b = every_behind (StartsWith l.seen) (heard ++ []) (seen ∷ nseen ∷ []) l.heard in
      (l.seen, l.turn, λ turn. record { mine = b.0; noted = b.1.0; legal = l.is_legal; own = refl; once = l.own.0 })
