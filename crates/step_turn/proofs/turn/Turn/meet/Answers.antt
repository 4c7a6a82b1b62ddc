use Rattle.std.proofs.Common.{◌≡◌, [], ◌∷◌, refl, sym, ap, ◌∙◌, subst, arith}
use Rattle.step_turn.specs.Histories.{IsLegal, Reaches}
use Rattle.step_turn.specs.Seats.{SeatValue, NoteValue, Met}
use Rattle.step_turn.specs.Order.{view_of, own_of, at_rest, noted, joined, Looked}
use Rattle.step_turn.proofs.Calling.{placed, meets}
use Rattle.step_turn.proofs.Making.{joins}
use Rattle.step_turn.proofs.turn.Turn.meet.Goals as goal

pub into_seat-place-requires : goal.into_seat-place-requires
into_seat-place-requires g c = (_, ap (λ b. b.views) c.replace.ensures.value ∙ c.seat.invariant)

pub into_seat-noted-requires : goal.into_seat-noted-requires
into_seat-noted-requires g c = (_, c.note.invariant)

pub join_seat-requires : goal.join_seat-requires
join_seat-requires g c =
    let i = c.into_seat-place.ensures in
    let j = c.into_seat-noted.ensures in
    let e = placed (at_rest c.seat.inside.number) c.seat.inside.badge.views c.replace.result.views c.into_seat-place.result.me c.seat.invariant (ap (λ b. b.views) c.replace.ensures.value) i.2 i.3 in
    let f = placed (λ v. noted v.seats v.seen) c.note.inside.badge.views c.note.inside.badge.views c.into_seat-noted.result.me c.note.invariant refl j.2 j.3 in
    let id = ap (λ t. t.id) (sym c.self.view_is) in (
      i.0 ∙ ap (λ b. b.table_id) c.replace.ensures.value ∙ ap (λ x. x.turn) c.seat.view_is ∙ c.requires.seat ∙ id,
      j.0 ∙ ap (λ x. x.turn) c.note.view_is ∙ c.requires.note ∙ id,
      j.3,
      omega (arith, c.self.invariant.1),
      joins g.S.Steps.meaning _ _ _ _ _ _ _ [] (ap (λ m. m.0.chairs) e) (ap (λ m. m.0.ticket) e) (ap (λ m. m.0.has_turn) e) (ap (λ m. m.0.to_make) e) (ap (λ m. m.0.ticket) f) (ap (λ m. m.0.has_turn) f) (ap (λ m. m.0.to_make) f),
    )

pub look-requires-clause-place : goal.look-requires-clause-place
look-requires-clause-place g c =
    let i = c.into_seat-place.ensures in
    c.join_seat.ensures.0 ∙ i.0 ∙ ap (λ b. b.table_id) c.replace.ensures.value ∙ ap (λ x. x.turn) c.seat.view_is ∙ c.requires.seat

pub look-requires-clause-waits : goal.look-requires-clause-waits
look-requires-clause-waits g c =
    let i = c.into_seat-place.ensures in
    let j = c.into_seat-noted.ensures in
    let e = placed (at_rest c.seat.inside.number) c.seat.inside.badge.views c.replace.result.views c.into_seat-place.result.me c.seat.invariant (ap (λ b. b.views) c.replace.ensures.value) i.2 i.3 in
    let f = placed (λ v. noted v.seats v.seen) c.note.inside.badge.views c.note.inside.badge.views c.into_seat-noted.result.me c.note.invariant refl j.2 j.3 in
    let both = c.join_seat.ensures.2 ∙ (λ k. (joined (e k).0 (f k).0, (e k).1)) in
    ((_, ap (λ m. m.0.chairs) both), ap (λ m. m.0.has_turn) both)

pub into_badge-requires : goal.into_badge-requires
into_badge-requires g c =
    let M = g.S.Steps.meaning in
    let start = c.args.self.now.start in
    let i = c.into_seat-place.ensures in
    let j = c.into_seat-noted.ensures in
    let v = view_of c.seat.inside.badge.views in
    let n = view_of c.note.inside.badge.views in
    let e = placed (at_rest c.seat.inside.number) c.seat.inside.badge.views c.replace.result.views c.into_seat-place.result.me c.seat.invariant (ap (λ b. b.views) c.replace.ensures.value) i.2 i.3 in
    let f = placed (λ v. noted v.seats v.seen) c.note.inside.badge.views c.note.inside.badge.views c.into_seat-noted.result.me c.note.invariant refl j.2 j.3 in
    let both = c.join_seat.ensures.2 ∙ (λ k. (joined (e k).0 (f k).0, (e k).1)) in
    let d = meets M start v.seats c.seat.inside.number (own_of v) v.seen v.heard n.seats n.seen c.look.result c.look.new.place.me (subst (λ m. Looked (IsLegal M start) (Reaches M start) m c.look.result c.look.new.place.me) both c.look.ensures.looks) in
    ap (λ m. m.1) d.1

pub invariant_of-seat : goal.invariant_of-seat
invariant_of-seat g c =
    let M = g.S.Steps.meaning in
    let start = c.args.self.now.start in
    let i = c.into_seat-place.ensures in
    let j = c.into_seat-noted.ensures in
    let v = view_of c.seat.inside.badge.views in
    let n = view_of c.note.inside.badge.views in
    let e = placed (at_rest c.seat.inside.number) c.seat.inside.badge.views c.replace.result.views c.into_seat-place.result.me c.seat.invariant (ap (λ b. b.views) c.replace.ensures.value) i.2 i.3 in
    let f = placed (λ v. noted v.seats v.seen) c.note.inside.badge.views c.note.inside.badge.views c.into_seat-noted.result.me c.note.invariant refl j.2 j.3 in
    let both = c.join_seat.ensures.2 ∙ (λ k. (joined (e k).0 (f k).0, (e k).1)) in
    let d = meets M start v.seats c.seat.inside.number (own_of v) v.seen v.heard n.seats n.seen c.look.result c.look.new.place.me (subst (λ m. Looked (IsLegal M start) (Reaches M start) m c.look.result c.look.new.place.me) both c.look.ensures.looks) in
    let rests = c.into_badge.ensures.2 ∙ ap (λ m. m.0 ∷ []) d.1 in
    subst (λ ws. ws ≡ at_rest c.seat.inside.number (view_of ws) ∷ []) (sym rests) refl

pub returns-clause-seat : goal.returns-clause-seat
returns-clause-seat g c = (
  ap (λ x. x.number) c.seat.view_is,
  c.into_badge.ensures.0 ∙ c.look.ensures.place.0 ∙ c.join_seat.ensures.0 ∙ c.into_seat-place.ensures.0 ∙ ap (λ b. b.table_id) c.replace.ensures.value ∙ ap (λ x. x.turn) c.seat.view_is,
)

pub returns-clause-met : goal.returns-clause-met
returns-clause-met g c =
    let M = g.S.Steps.meaning in
    let start = c.args.self.now.start in
    let i = c.into_seat-place.ensures in
    let j = c.into_seat-noted.ensures in
    let v = view_of c.seat.inside.badge.views in
    let n = view_of c.note.inside.badge.views in
    let e = placed (at_rest c.seat.inside.number) c.seat.inside.badge.views c.replace.result.views c.into_seat-place.result.me c.seat.invariant (ap (λ b. b.views) c.replace.ensures.value) i.2 i.3 in
    let f = placed (λ v. noted v.seats v.seen) c.note.inside.badge.views c.note.inside.badge.views c.into_seat-noted.result.me c.note.invariant refl j.2 j.3 in
    let both = c.join_seat.ensures.2 ∙ (λ k. (joined (e k).0 (f k).0, (e k).1)) in
    let d = meets M start v.seats c.seat.inside.number (own_of v) v.seen v.heard n.seats n.seen c.look.result c.look.new.place.me (subst (λ m. Looked (IsLegal M start) (Reaches M start) m c.look.result c.look.new.place.me) both c.look.ensures.looks) in
    let rests = c.into_badge.ensures.2 ∙ ap (λ m. m.0 ∷ []) d.1 in
    let same = c.into_badge.ensures.0 ∙ c.look.ensures.place.0 ∙ c.join_seat.ensures.0 ∙ i.0 ∙ ap (λ b. b.table_id) c.replace.ensures.value in
    let ids = same ∙ ap (λ x. x.turn) c.seat.view_is ∙ c.requires.seat ∙ sym c.requires.note ∙ sym (ap (λ x. x.turn) c.note.view_is) in
    let number = c.seat.inside.number in
    let id = c.into_badge.result.table_id in
    let old : SeatValue g.row.S-Asked.Denot g.row.S-Answer.Denot = record { number = number; seen = v.seen; own = own_of v; turn = c.seat.inside.badge.table_id } in
    let note : NoteValue g.row.S-Asked.Denot g.row.S-Answer.Denot = record { seen = n.seen; turn = c.note.inside.badge.table_id } in
    let ws = c.into_badge.result.views in
    let new : SeatValue g.row.S-Asked.Denot g.row.S-Answer.Denot = record { number = number; seen = (view_of ws).seen; own = own_of (view_of ws); turn = id } in
    subst (λ x. Met M start x c.args.note new) c.seat.view_is
    (subst (λ x. Met M start old x new) c.note.view_is
    (subst (λ xs. Met M start old note record { number = number; seen = (view_of xs).seen; own = own_of (view_of xs); turn = id }) (sym rests)
    (subst (λ t. Met M start record { number = number; seen = v.seen; own = own_of v; turn = t } note record { number = number; seen = d.0; own = own_of v; turn = id }) same
    (subst (λ t. Met M start record { number = number; seen = v.seen; own = own_of v; turn = id } record { seen = n.seen; turn = t } record { number = number; seen = d.0; own = own_of v; turn = id }) ids (d.2 id)))))
