-- Clients of whom an image is sealed.
use Rattle.policy_book.proofs.Common.{◌≡◌, ◌∙◌, ℕ, List, set, get_or, sym, ap, refl, false, Option, Client, AreByName, named, has, put, Book, client_name, raised, put_found, unnamed_at, lacks_at, lacks_as, max}
use native.Mathlib.Numerals.{unary_clauses}
use Rattle.std.specs.Option.{option_map_or}
use Rattle.std.proofs.lemmas.Map.Lookups.{exact_bytes}
use Rattle.policy_book.specs.declared.book.Book.TheInside.{Inside}
use Rattle.slp_tree.specs.Places.{StandsAt, LacksAt}
use Rattle.policy_book.proofs.BookLemmas.{seen}

abbrev with_last : List ℕ → ℕ → Option Client → Client
with_last name time found = record { name = name; last = max (option_map_or (λ c. c.last) found 0) time }

-- the client of a name after an image of this time
abbrev pub sealed : List ℕ → ℕ → List Client → Client
sealed name time xs = with_last name time (named client_name name xs)

pub sealed_at : (xs : List Client) (name : List ℕ) (time i : ℕ) (before after : Client) → AreByName client_name xs → StandsAt client_name xs name i → before ≡ get_or xs i before → after ≡ raised time before → set xs i after ≡ put client_name (sealed name time xs) xs
sealed_at xs name time i before after rising at is made =
    let same : before.name ≡ name = ap (λ (c : Client). c.name) is ∙ exact_bytes (get_or xs i before).name name (at.1 before) in
    put_found client_name (with_last name time) xs name i before after (λ o. refl) rising at is (made ∙ (λ j. record { name = same j; last = max before.last time }))

-- the same of a client that isn't there yet
pub sealed_new : (xs : List Client) (name : List ℕ) (time i : ℕ) → LacksAt client_name xs name i → put client_name (record { name = name; last = time }) xs ≡ put client_name (sealed name time xs) xs
sealed_new xs name time i lacks =
    let fresh : max 0 time ≡ time = simp unary_clauses refl in
    ap (λ (c : Client). put client_name c xs) ((λ j. record { name = name; last = sym fresh j }) ∙ ap (with_last name time) (sym (unnamed_at client_name xs name i lacks)))

-- the client isn't there
pub client_lacks : (b : Inside) (now : Book) (clients : List Client) (name : List ℕ) (i : ℕ) → seen b ≡ now → clients ≡ b.clients.items → LacksAt client_name clients name i → has client_name name now.clients ≡ false
client_lacks b now clients name i is listed lacks =
    ap (λ (c : Book). has client_name name c.clients) (sym is)
    ∙ lacks_at client_name b.clients.items name i (lacks_as client_name b.clients.items clients name name i listed refl lacks)
