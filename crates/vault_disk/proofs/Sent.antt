-- What was sent in the first calls stands before what was sent in the others.
use Rattle.std.proofs.Common.{◌≡◌, ℕ, ◌+◌, ◌<◌, ◌≤◌, List, [], ◌∷◌, ◌++◌, length, take, drop, get_or, reverse, sym, ◌∙◌, ap, arith, length-append, append_assoc, take-append-drop}
use Rattle.std.proofs.lemmas.List.{append-nil, reverse-append, take_at}
use Rattle.std.proofs.lemmas.Grind.{take_at_read}
use Rattle.vault_disk.specs.Memory.{sent_of}
use Rattle.vault_disk.specs.declared.call.Call.{Call}
use Rattle.vault_disk.specs.declared.call.Call.TheVariants.{Wrote, Resized, Synced, Sent, Other}

sent_more : (late early : List Call) → sent_of (late ++ early) ≡ sent_of early ++ sent_of late
sent_more [] early = sym (append-nil (sent_of early))
sent_more (Sent bytes ∷ late) early = ap (λ (l : List ℕ). l ++ bytes) (sent_more late early) ∙ append_assoc (sent_of early) (sent_of late) bytes
sent_more (Wrote g at bytes ∷ late) early = sent_more late early
sent_more (Resized g n ∷ late) early = sent_more late early
sent_more (Synced g ∷ late) early = sent_more late early
sent_more (Other ∷ late) early = sent_more late early

split : (calls : List Call) (n : ℕ) → sent_of (reverse calls) ≡ sent_of (reverse (take n calls)) ++ sent_of (reverse (drop n calls))
split calls n =
    ap (λ (l : List Call). sent_of (reverse l)) (sym (take-append-drop n calls))
    ∙ ap sent_of (reverse-append (take n calls) (drop n calls))
    ∙ sent_more (reverse (drop n calls)) (reverse (take n calls))

pub said_within : (calls : List Call) (n : ℕ) → length (sent_of (reverse (take n calls))) ≤ length (sent_of (reverse calls))
said_within calls n =
    omega (arith, ap length (split calls n), length-append (sent_of (reverse (take n calls))) (sent_of (reverse (drop n calls))))

pub room_for : (calls : List Call) (i : ℕ) (item : Call) (bytes part : List ℕ) (total most : ℕ) → i < length calls → item ≡ get_or calls i item → item ≡ Sent bytes → part ≡ bytes → total ≡ length (sent_of (reverse (take i calls))) → length (sent_of (reverse calls)) < most
    → total + length part < most
room_for calls i item bytes part total most le at is same so_far fits =
    let next : take (i + 1) calls ≡ take i calls ++ Sent bytes ∷ [] = (take_at_read calls i item le).1 ∙ ap (λ (e : Call). take i calls ++ e ∷ []) (sym at ∙ is) in
    let more : sent_of (reverse (take (i + 1) calls)) ≡ sent_of (reverse (take i calls)) ++ bytes =
    ap (λ (l : List Call). sent_of (reverse l)) next ∙ ap sent_of (reverse-append (take i calls) (Sent bytes ∷ []))
    in
    omega (arith, ap length more, length-append (sent_of (reverse (take i calls))) bytes, said_within calls (i + 1), ap length same)

pub said_take : (calls seen : List Call) (sent all : List ℕ) (n k : ℕ) → seen ≡ calls → sent ≡ all → all ≡ sent_of (reverse calls) → k ≡ length (sent_of (reverse (take n seen))) → take k sent ≡ sent_of (reverse (take n calls))
said_take calls seen sent all n k seen_is sent_is all_is long =
    let part : List ℕ = sent_of (reverse (take n calls)) in
    ap (λ (l : List ℕ). take k l) (sent_is ∙ all_is ∙ split calls n)
    ∙ take_at part (sent_of (reverse (drop n calls))) k (sym (long ∙ ap (λ (l : List Call). length (sent_of (reverse (take n l)))) seen_is))

pub said_bound : (calls seen : List Call) (sent all : List ℕ) (n most : ℕ) → seen ≡ calls → sent ≡ all → all ≡ sent_of (reverse calls) → length sent < most → length (sent_of (reverse (take n seen))) < most
said_bound calls seen sent all n most seen_is sent_is all_is fits =
    omega (arith, ap (λ (l : List Call). length (sent_of (reverse (take n l)))) seen_is, said_within calls n, ap length (sent_is ∙ all_is), fits)

pub said_length : (calls seen : List Call) (sent all : List ℕ) (n k : ℕ) → seen ≡ calls → sent ≡ all → all ≡ sent_of (reverse calls) → k ≡ length (sent_of (reverse (take n seen))) → k ≡ length (take k sent)
said_length calls seen sent all n k seen_is sent_is all_is long =
    long ∙ ap (λ (l : List Call). length (sent_of (reverse (take n l)))) seen_is ∙ sym (ap length (said_take calls seen sent all n k seen_is sent_is all_is long))
