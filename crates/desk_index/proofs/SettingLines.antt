-- The lines of a settings record fit into it: those of requests are short, and there are few.
use Rattle.std.proofs.Common.{◌≡◌, ◌+◌, ◌*◌, ◌<◌, ◌≤◌, ℕ, zero, suc, List, [], ◌∷◌, length, map, arith, length-append}
use Rattle.std.specs.List.{All}
use Rattle.std.proofs.lemmas.List.{length-map}
use Rattle.std.proofs.lemmas.List.Elements.{All-nil, All-cons}
use Rattle.site_types.specs.Lines.{IsFormed, line_of}
use Rattle.site_types.specs.declared.request.Request.{Request}
use Rattle.pool_journal.specs.declared.entry.Entry.TheVariants as entry
use Rattle.pool_journal.specs.Fields.{string, strings}
use Rattle.pool_journal.specs.Entries.{AllShort, IsWritable}
use Rattle.desk_model.proofs.ShortLines.{line_short}

string_length : (line : List ℕ) → length (string line) ≡ 2 + length line
string_length line = omega arith

-- each takes at most 4,097 bytes
strings_short : (requests : List Request) → All IsFormed requests → length (strings (map line_of requests)) ≤ 4097 * length requests
strings_short [] formed = omega arith
strings_short (request ∷ requests) formed =
    let here = line_short request (formed zero request (omega arith)) in
    let rest = strings_short requests (λ k d lt. formed (suc k) d (omega (arith, lt))) in
    omega (arith, here, rest, string_length (line_of request), length-append (string (line_of request)) (strings (map line_of requests)))

all_short : (requests : List Request) → All IsFormed requests → AllShort (map line_of requests)
all_short [] formed = tt
all_short (request ∷ requests) formed =
    let here : length (line_of request) < 4096 = line_short request (formed zero request (omega arith)) in
    (omega (arith, here), all_short requests (λ k d lt. formed (suc k) d (omega (arith, lt))))

-- the record of so many requests can be written
pub writable : (requests : List Request) → All IsFormed requests → length requests ≤ 288017 → IsWritable (entry.Settings (map line_of requests))
writable requests formed few =
    let lines = map line_of requests in
    let long = strings_short requests formed in
    let count : length lines ≡ length requests = length-map requests line_of in
    (omega (arith, long, few), (omega (arith, count, few), all_short requests formed))

pub one_writable : (request : Request) → IsFormed request → IsWritable (entry.Settings (line_of request ∷ []))
one_writable request formed = writable (request ∷ []) (All-cons IsFormed request [] formed (All-nil IsFormed)) (omega arith)
