use Rattle.std.proofs.Common.{◌≡◌, ℕ, ◌++◌, [], ◌∷◌, get_or, false, refl, sym, ap, ◌∙◌, subst, inl, arith}
use Rattle.std.specs.Slots.{slots_items, slots_len, slots_filled}
use Rattle.atomic_table.specs.Table.{Final, Seen}
use Rattle.step_turn.specs.Seats.{SeatValue, AreOf, Closes}
use Rattle.step_turn.specs.Histories.{Every}
use Rattle.step_turn.specs.Order.{view_of, own_of, at_rest, IsOrdered, Knows}
use Rattle.step_turn.proofs.Calling.{placed}
use Rattle.step_turn.proofs.Closing.{every_front, every_last, closes, emptied, same_some}
use Rattle.step_turn.proofs.turn.Turn.close_all.Goals as goal

pub into_seat-place-requires : goal.into_seat-place-requires
into_seat-place-requires g c = (_, c.first.invariant)

pub gather-requires-clause-place : goal.gather-requires-clause-place
gather-requires-clause-place g c =
    let i = c.into_seat-place.ensures in
    let e = placed (at_rest c.first.inside.number) c.first.inside.badge.views c.first.inside.badge.views c.into_seat-place.result.me c.first.invariant refl i.2 i.3 in
    let of = every_last (λ (x : SeatValue g.row.S-Asked.Denot g.row.S-Answer.Denot). x.turn ≡ c.args.self.id) c.pop.new.self.items c.in-Some.first (subst (AreOf c.args.self.id) c.in-Some.ensures.items c.requires.turn) in (
      i.0 ∙ ap (λ x. x.turn) c.first.view_is ∙ of,
      (i.3, ap (λ m. m.0.ticket) e, ap (λ m. m.0.has_turn) e, ap (λ m. m.0.to_make) e),
      (_, ap (λ m. m.0.chairs) e),
    )

pub gather-requires-clause-turn : goal.gather-requires-clause-turn
gather-requires-clause-turn g c = every_front (λ (x : SeatValue g.row.S-Asked.Denot g.row.S-Answer.Denot). x.turn ≡ c.args.self.id) c.pop.new.self.items (c.in-Some.first ∷ []) (subst (AreOf c.args.self.id) c.in-Some.ensures.items c.requires.turn)

pub close_with-closed-requires : goal.close_with-closed-requires
close_with-closed-requires g c =
    let i = c.into_seat-place.ensures in
    let of = every_last (λ (x : SeatValue g.row.S-Asked.Denot g.row.S-Answer.Denot). x.turn ≡ c.args.self.id) c.pop.new.self.items c.in-Some.first (subst (AreOf c.args.self.id) c.in-Some.ensures.items c.requires.turn) in
    c.gather.ensures.place.0 ∙ i.0 ∙ ap (λ x. x.turn) c.first.view_is ∙ of ∙ ap (λ t. t.id) (sym c.self.view_is)

pub take-slot-requires : goal.take-slot-requires
take-slot-requires g c =
    let one : slots_len c.close_with-closed.result.slots ≡ 1 = c.close_with-closed.ensures.counts.1 ∙ c.self.invariant.2 in
    (omega (arith, one), c.close_with-closed.ensures.values.1 0 (omega arith) (omega (arith, one)))

pub free-requires : goal.free-requires
free-requires g c k lt =
    let o = c.take-slot.ensures.others in
    let one : slots_len c.take-slot.new.self.slots ≡ 1 = o.2 ∙ c.close_with-closed.ensures.counts.1 ∙ c.self.invariant.2 in
    let first : 0 ≡ k = omega (arith, lt, one) in
    subst (λ n. get_or (slots_filled c.take-slot.new.self.slots) n false ≡ false) first (ap (λ fs. get_or fs 0 false) o.1 ∙ emptied (slots_filled c.close_with-closed.result.slots))

pub returns : goal.returns
returns g c =
    let i = c.into_seat-place.ensures in
    let e = placed (at_rest c.first.inside.number) c.first.inside.badge.views c.first.inside.badge.views c.into_seat-place.result.me c.first.invariant refl i.2 i.3 in
    let M = g.S.Steps.meaning in
    let v = view_of c.first.inside.badge.views in
    let first : SeatValue g.row.S-Asked.Denot g.row.S-Answer.Denot = record { number = c.first.inside.number; seen = v.seen; own = own_of v; turn = c.first.inside.badge.table_id } in
    let G = c.gather.ensures.gathers in
    let closed = c.close_with-closed.ensures.values in
    let starts = ap (λ t. t.start) c.self.view_is in
    let seats = c.self.invariant.0 ∙ ap (λ t. t.seats) c.self.view_is in
    let final = subst (λ (x : g.row.S.Denot × ℕ). Final (Seen (IsOrdered M x.0 x.1) c.gather.new.place.id c.gather.new.place.me.0) (slots_items c.close_with-closed.result.words) (slots_items c.close_with-closed.result.slots)) (λ k. (starts k, seats k)) closed.2 in
    let known : Knows c.into_seat-place.result.me.0 first = subst (λ m. Knows m.0 first) (sym e) (inl refl, inl refl) in
    let all_is = c.in-Some.ensures.items ∙ ap (λ x. c.pop.new.self.items ++ x ∷ []) (sym c.first.view_is) in
    let d = closes M c.args.self c.gather.new.place.id c.gather.new.place.me first c.pop.new.self.items c.args.seats.items (slots_items c.close_with-closed.result.words) (slots_items c.close_with-closed.result.slots) c.take-slot.result
    all_is (G.keeps_known first known) (subst (Every (Knows c.gather.new.place.me.0)) (sym (G.all_is)) G.knows) G.idle.1 c.requires.all final c.take-slot.ensures.value in
    subst (λ o. Closes M c.args.self c.args.seats.items o) (same_some d.0 c.in-Some-slot.object (sym d.1 ∙ c.in-Some-slot.is)) d.2

pub unreachable-requires-in_default-slot : goal.unreachable-requires-in_default-slot
unreachable-requires-in_default-slot g c =
    let i = c.into_seat-place.ensures in
    let e = placed (at_rest c.first.inside.number) c.first.inside.badge.views c.first.inside.badge.views c.into_seat-place.result.me c.first.invariant refl i.2 i.3 in
    let M = g.S.Steps.meaning in
    let v = view_of c.first.inside.badge.views in
    let first : SeatValue g.row.S-Asked.Denot g.row.S-Answer.Denot = record { number = c.first.inside.number; seen = v.seen; own = own_of v; turn = c.first.inside.badge.table_id } in
    let G = c.gather.ensures.gathers in
    let closed = c.close_with-closed.ensures.values in
    let starts = ap (λ t. t.start) c.self.view_is in
    let seats = c.self.invariant.0 ∙ ap (λ t. t.seats) c.self.view_is in
    let final = subst (λ (x : g.row.S.Denot × ℕ). Final (Seen (IsOrdered M x.0 x.1) c.gather.new.place.id c.gather.new.place.me.0) (slots_items c.close_with-closed.result.words) (slots_items c.close_with-closed.result.slots)) (λ k. (starts k, seats k)) closed.2 in
    let known : Knows c.into_seat-place.result.me.0 first = subst (λ m. Knows m.0 first) (sym e) (inl refl, inl refl) in
    let all_is = c.in-Some.ensures.items ∙ ap (λ x. c.pop.new.self.items ++ x ∷ []) (sym c.first.view_is) in
    let d = closes M c.args.self c.gather.new.place.id c.gather.new.place.me first c.pop.new.self.items c.args.seats.items (slots_items c.close_with-closed.result.words) (slots_items c.close_with-closed.result.slots) c.take-slot.result
    all_is (G.keeps_known first known) (subst (Every (Knows c.gather.new.place.me.0)) (sym (G.all_is)) G.knows) G.idle.1 c.requires.all final c.take-slot.ensures.value in
    c.in_default-slot.not-Some d.0 d.1
