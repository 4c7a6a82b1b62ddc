-- The entries of one client's images up to a moment.
use Rattle.std.proofs.Common.{◌≡◌, ◌≤◌, ◌&&◌, ℕ, List, [], ◌∷◌, Bool, true, false, cond, refl, sym, ◌∙◌, ap, arith, not, Ordering, Less, Equal, Greater}
use Rattle.std.specs.BTreeMap.Range.{entries_between}
use Rattle.std.specs.Cmp.Lexicographic.{slice_cmp}
use Rattle.std.specs.List.{filter}
use Rattle.std.specs.Map.{values_of}
use Rattle.std.specs.Ordering.{is_eq, is_gt, is_le, is_lt, nat_cmp, ordering_then}
use Rattle.std.specs.Prelude.{bytes_eq, nat_le}
use Rattle.std.specs.declared.ops.Bound.TheVariants.{Included}
use Rattle.std.proofs.lemmas.Bool.Decides.{nat_tests}
use Rattle.std.proofs.lemmas.Cmp.{nat_list_eq_equiv}
use Rattle.std.proofs.lemmas.Map.Text.{is_eq-slice_cmp}
use Rattle.image_catalogue.specs.Entries.{KeysAreIds}
use Rattle.image_catalogue.specs.Images.{is_made_by, BackupId, ImageRecord}
use Rattle.image_catalogue.proofs.EntryLemmas.{id_cmp}

-- the first id that a client may have, and its last up to a moment
abbrev pub id_at : List ℕ → ℕ → BackupId
id_at client moment = record { client = client; time = moment }

from_start : (time : ℕ) → is_le (nat_cmp 0 time) ≡ true
from_start time = grind (arith, nat_tests)

to_moment : (moment time : ℕ) → not (is_lt (nat_cmp moment time)) ≡ nat_le time moment
to_moment moment time = grind (arith, nat_tests)

-- by how the clients stand to each other
within : (o : Ordering) (moment time : ℕ) → (is_le (ordering_then o (nat_cmp 0 time)) && not (is_lt (ordering_then o (nat_cmp moment time)))) ≡ (is_eq o && nat_le time moment)
within Less moment time = refl
within Equal moment time = (λ j. from_start time j && to_moment moment time j)
within Greater moment time = refl

-- an id stands between the two exactly where it is the client's, and no later
between : (client : List ℕ) (moment : ℕ) (id : BackupId) → (is_le (id_cmp (id_at client 0) id) && not (is_lt (id_cmp (id_at client moment) id))) ≡ (bytes_eq id.client client && nat_le id.time moment)
between client moment id =
    within (slice_cmp nat_cmp client id.client) moment id.time
    ∙ ap (λ (b : Bool). b && nat_le id.time moment) (is_eq-slice_cmp client id.client ∙ nat_list_eq_equiv.symm client id.client)

pub forward : (client : List ℕ) (moment : ℕ) → is_gt (id_cmp (id_at client 0) (id_at client moment)) ≡ false
forward client moment = by_client (slice_cmp nat_cmp client client) (is_eq-slice_cmp client client ∙ nat_list_eq_equiv.refl client)
  where
    by_client : (o : Ordering) → is_eq o ≡ true → is_gt (ordering_then o (nat_cmp 0 moment)) ≡ false
    by_client Less is = refl
    by_client Equal is = grind (arith, nat_tests)
    by_client Greater is = absurd (cc is)

pub of_client : (client : List ℕ) (moment : ℕ) (es : List (BackupId × ImageRecord)) → KeysAreIds es → values_of (entries_between id_cmp (Included (id_at client 0)) (Included (id_at client moment)) es) ≡ filter (is_made_by client moment) (values_of es)
of_client client moment [] kept = refl
of_client client moment (e ∷ es) kept =
    by_test (is_le (id_cmp (id_at client 0) e.0) && not (is_lt (id_cmp (id_at client moment) e.0))) (is_made_by client moment e.1)
    (between client moment e.0 ∙ ap (λ (id : BackupId). bytes_eq id.client client && nat_le id.time moment) kept.0)
    (of_client client moment es kept.1)
  where
    rest : List (BackupId × ImageRecord)
    rest = entries_between id_cmp (Included (id_at client 0)) (Included (id_at client moment)) es

    by_test : (b c : Bool) → b ≡ c → values_of rest ≡ filter (is_made_by client moment) (values_of es) → values_of (cond b (e ∷ rest) rest) ≡ cond c (e.1 ∷ filter (is_made_by client moment) (values_of es)) (filter (is_made_by client moment) (values_of es))
    by_test true true same later = ap (λ (images : List ImageRecord). e.1 ∷ images) later
    by_test false false same later = later
    by_test true false same later = absurd (cc same)
    by_test false true same later = absurd (cc same)
