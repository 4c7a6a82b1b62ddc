-- The sets of pieces that are stored.
use Rattle.desk_model.proofs.Common.{◌≡◌, ◌∙◌, ℕ, zero, suc, Bool, true, false, List, [], ◌∷◌, ◌++◌, length, refl, sym, ap, subst, arith, Some, if◌then◌else◌, option_map, slice_get, Contains, bytes_eq, false≢true, bytes_eq-Decides, with_pieces, Stored, with_stored, stored_on, text_is}
use Rattle.desk_model.proofs.PieceLemmas.{among_all, among_more}

abbrev pub set_name : Stored → List ℕ
set_name set = set.unit

abbrev pub more_in : Stored → List (List ℕ) → Stored
more_in set more = record { unit = set.unit; pieces = with_pieces set.pieces more }

module _ (unit : List ℕ) (more : List (List ℕ)) where
  pub stored_length : (sets : List Stored) → length (with_stored unit more sets) ≡ length sets
  stored_length [] = refl
  stored_length (set ∷ sets) = at (bytes_eq set.unit unit) (stored_length sets)
    where
      at : (b : Bool) → length (with_stored unit more sets) ≡ length sets → length (if b then more_in set more ∷ sets else set ∷ with_stored unit more sets) ≡ suc (length sets)
      at true rest = refl
      at false rest = ap suc rest

  -- each stands where it stood
  pub stored_places : (sets : List Stored) (n : ℕ) → option_map set_name (slice_get (with_stored unit more sets) n) ≡ option_map set_name (slice_get sets n)
  stored_places [] n = refl
  stored_places (set ∷ sets) n = at (bytes_eq set.unit unit) (stored_places sets) n
    where
      at : (b : Bool) → ((n : ℕ) → option_map set_name (slice_get (with_stored unit more sets) n) ≡ option_map set_name (slice_get sets n)) → (n : ℕ) → option_map set_name (slice_get (if b then more_in set more ∷ sets else set ∷ with_stored unit more sets) n) ≡ option_map set_name (slice_get (set ∷ sets) n)
      at true later zero = refl
      at true later (suc n) = refl
      at false later zero = refl
      at false later (suc n) = later n

  -- what holds of each set, and of the one that has more pieces
  pub each_stored : (P : Stored → Type 0) (sets : List Stored) → ((set : Stored) → set.unit ≡ unit → P set → P (more_in set more)) → ((set : Stored) → Contains sets set → P set) → (set : Stored) → Contains (with_stored unit more sets) set → P set
  each_stored P [] grows each one (k, lt, is) = absurd (omega arith)
  each_stored P (set ∷ sets) grows each one among = at (bytes_eq set.unit unit) refl (each_stored P sets grows (λ other there. each other (suc there.0, omega (arith, there.1), there.2))) one among
    where
      at : (b : Bool) → bytes_eq set.unit unit ≡ b → ((other : Stored) → Contains (with_stored unit more sets) other → P other) → (other : Stored) → Contains (if b then more_in set more ∷ sets else set ∷ with_stored unit more sets) other → P other
      at true same rest other (zero, lt, is) = subst P is (grows set (text_is set.unit unit same) (each set (zero, omega arith, refl)))
      at true same rest other (suc k, lt, is) = each other (suc k, omega arith, is)
      at false differs rest other (zero, lt, is) = each other (zero, omega arith, is)
      at false differs rest other (suc k, lt, is) = rest other (k, omega arith, is)

  -- nothing is lost
  pub stored_grows : (sets : List Stored) (other piece : List ℕ) → Contains (stored_on other sets) piece → Contains (stored_on other (with_stored unit more sets)) piece
  stored_grows [] other piece among = among
  stored_grows (set ∷ sets) other piece among = at (bytes_eq set.unit unit) (bytes_eq set.unit other) refl (stored_grows sets other piece) among
    where
      at : (b c : Bool) → bytes_eq set.unit other ≡ c → (Contains (stored_on other sets) piece → Contains (stored_on other (with_stored unit more sets)) piece) → Contains (if c then set.pieces else stored_on other sets) piece → Contains (stored_on other (if b then more_in set more ∷ sets else set ∷ with_stored unit more sets)) piece
      at true true here later there = subst (λ (d : Bool). Contains (if d then with_pieces set.pieces more else stored_on other sets) piece) (sym here) (among_all set.pieces more piece there)
      at true false here later there = subst (λ (d : Bool). Contains (if d then with_pieces set.pieces more else stored_on other sets) piece) (sym here) there
      at false true here later there = subst (λ (d : Bool). Contains (if d then set.pieces else stored_on other (with_stored unit more sets)) piece) (sym here) there
      at false false here later there = subst (λ (d : Bool). Contains (if d then set.pieces else stored_on other (with_stored unit more sets)) piece) (sym here) (later there)

  -- and what is added is there, where the unit has its set
  pub stored_there : (sets : List Stored) (n : ℕ) → option_map set_name (slice_get sets n) ≡ Some unit → (piece : List ℕ) → Contains more piece → Contains (stored_on unit (with_stored unit more sets)) piece
  stored_there [] n there piece among = absurd (cc there)
  stored_there (set ∷ sets) n there piece among = at (bytes_eq set.unit unit) refl (λ m is. stored_there sets m is piece among) n there
    where
      at : (b : Bool) → bytes_eq set.unit unit ≡ b → ((m : ℕ) → option_map set_name (slice_get sets m) ≡ Some unit → Contains (stored_on unit (with_stored unit more sets)) piece) → (n : ℕ) → option_map set_name (slice_get (set ∷ sets) n) ≡ Some unit → Contains (stored_on unit (if b then more_in set more ∷ sets else set ∷ with_stored unit more sets)) piece
      at true same later n there = subst (λ (d : Bool). Contains (if d then with_pieces set.pieces more else stored_on unit sets) piece) (sym same) (among_more set.pieces more piece among)
      at false differs later zero there =
          let same : set.unit ≡ unit = cc there in
          absurd (false≢true (sym differs ∙ (bytes_eq-Decides set.unit unit).1 same))
      at false differs later (suc n) there = subst (λ (d : Bool). Contains (if d then set.pieces else stored_on unit (with_stored unit more sets)) piece) (sym differs) (later n there)

-- a set more, with nothing in it
pub stored_pushed : (sets : List Stored) (new : Stored) (other piece : List ℕ) → Contains (stored_on other sets) piece → Contains (stored_on other (sets ++ new ∷ [])) piece
stored_pushed [] new other piece (k, lt, is) = absurd (omega arith)
stored_pushed (set ∷ sets) new other piece among = at (bytes_eq set.unit other) among (stored_pushed sets new other piece)
  where
    at : (b : Bool) → Contains (if b then set.pieces else stored_on other sets) piece → (Contains (stored_on other sets) piece → Contains (stored_on other (sets ++ new ∷ [])) piece) → Contains (if b then set.pieces else stored_on other (sets ++ new ∷ [])) piece
    at true there rest = there
    at false there rest = rest there

-- the others stand where they stood, and the new one behind them
pub places_pushed : (sets : List Stored) (new : Stored) (n : ℕ) (name : List ℕ) → option_map set_name (slice_get sets n) ≡ Some name → option_map set_name (slice_get (sets ++ new ∷ []) n) ≡ Some name
places_pushed [] new n name is = absurd (cc is)
places_pushed (set ∷ sets) new zero name is = is
places_pushed (set ∷ sets) new (suc n) name is = places_pushed sets new n name is

pub place_pushed : (sets : List Stored) (new : Stored) (n : ℕ) → n ≡ length sets → option_map set_name (slice_get (sets ++ new ∷ []) n) ≡ Some new.unit
place_pushed [] new n is = ap (λ (k : ℕ). option_map set_name (slice_get (new ∷ []) k)) is
place_pushed (set ∷ sets) new n is = ap (λ (k : ℕ). option_map set_name (slice_get (set ∷ (sets ++ new ∷ [])) k)) is ∙ place_pushed sets new (length sets) refl
