-- Rows of policies of files, worked out on the definitions: a chain of four images, and streams that are none.
use Rattle.desk_model.proofs.Common.{◌≡◌, ℕ, List, refl, [], ◌∷◌, ◌++◌, codes, None, Some, Answer, Request, State, initial, step}
use Rattle.std.specs.Fmt.{digits}
use Rattle.site_types.specs.declared.answer.Answer.TheVariants.{Done, Unknown, BadStream}
use Rattle.site_types.specs.declared.image.Kind.{Kind}
use Rattle.site_types.specs.declared.image.Kind.TheVariants.{Full, Differential, Cumulative}
use Rattle.site_types.specs.declared.request.Request.TheVariants as request
use Rattle.site_types.specs.declared.schedule.PolicyType.TheVariants.{Files}
use Rattle.site_types.specs.declared.window.Windows.TheVariants.{Listed}
use Rattle.image_kinds.specs.declared.entry.Entry.{Entry}
use Rattle.image_kinds.specs.Streams.{spelled_stream}

abbrev set : State → Request → State
set s request = (step s request [] 1).1

abbrev scheduled : List ℕ → Kind → Request
scheduled name kind = request.ScheduleAdd (codes "p") name kind (Some 1) None (Listed [])

-- a policy of files for alpha, with all paths selected, and a schedule of each kind
abbrev site : State
site =
    set (set (set (set (set (set (set initial
    (request.ClientAdd (codes "alpha")))
    (request.PolicyAdd (codes "p") Files (codes "basic")))
    (request.PolicyClientAdd (codes "p") (codes "alpha")))
    (request.PolicySelect (codes "p") (codes "/")))
    (scheduled (codes "f") Full))
    (scheduled (codes "d") Differential))
    (scheduled (codes "c") Cumulative)

abbrev file : List ℕ → ℕ → List ℕ → Entry
file path time content = record { path = path; time = time; content = content }

abbrev backed_up : State → List ℕ → List Entry → ℕ → State
backed_up s schedule stream moment = (step s (request.Backup (codes "alpha") (Some (codes "p")) (Some schedule) None) (spelled_stream stream) moment).1

abbrev chain : State
chain =
    backed_up (backed_up (backed_up (backed_up site
    (codes "f") (file (codes "/a") 900 (codes "A1") ∷ file (codes "/b") 900 (codes "B1") ∷ []) 1000)
    (codes "d") (file (codes "/a") 1500 (codes "A2") ∷ file (codes "/b") 900 (codes "B1") ∷ []) 2000)
    (codes "c") (file (codes "/a") 1500 (codes "A2") ∷ file (codes "/b") 900 (codes "B1") ∷ file (codes "/c") 2500 (codes "C1") ∷ []) 3000)
    (codes "d") (file (codes "/a") 1500 (codes "A2") ∷ file (codes "/c") 3500 (codes "C2") ∷ []) 4000

abbrev restored : ℕ → Answer
restored before = (step chain (request.RestoreAt (codes "alpha") (codes "p") (Some before)) [] 5000).0

-- byte for byte
at_4000 : restored 4000 ≡ Done (78 ∷ 66 ∷ 67 ∷ 49
    ∷ 1 ∷ 0 ∷ 2 ∷ 47 ∷ 97 ∷ 0 ∷ 0 ∷ 0 ∷ 0 ∷ 0 ∷ 0 ∷ 5 ∷ 220 ∷ 0 ∷ 0 ∷ 0 ∷ 0 ∷ 0 ∷ 0 ∷ 0 ∷ 2 ∷ 65 ∷ 50
    ∷ 1 ∷ 0 ∷ 2 ∷ 47 ∷ 99 ∷ 0 ∷ 0 ∷ 0 ∷ 0 ∷ 0 ∷ 0 ∷ 13 ∷ 172 ∷ 0 ∷ 0 ∷ 0 ∷ 0 ∷ 0 ∷ 0 ∷ 0 ∷ 2 ∷ 67 ∷ 50
    ∷ 0 ∷ [])
at_4000 = refl

at_3999 : restored 3999 ≡ Done (spelled_stream (file (codes "/a") 1500 (codes "A2") ∷ file (codes "/b") 900 (codes "B1") ∷ file (codes "/c") 2500 (codes "C1") ∷ []))
at_3999 = refl

at_2999 : restored 2999 ≡ Done (spelled_stream (file (codes "/a") 1500 (codes "A2") ∷ file (codes "/b") 900 (codes "B1") ∷ []))
at_2999 = refl

at_1999 : restored 1999 ≡ Done (spelled_stream (file (codes "/a") 900 (codes "A1") ∷ file (codes "/b") 900 (codes "B1") ∷ []))
at_1999 = refl

at_999 : restored 999 ≡ Unknown (codes "p/alpha")
at_999 = refl

-- payloads that are no stream, and one that has no file
abbrev given : List ℕ → Answer
given payload = (step site (request.Backup (codes "alpha") (Some (codes "p")) None None) payload 1000).0

wrong_letters : given (codes "NBC2") ≡ BadStream 0
wrong_letters = refl

ends_early : given (codes "NBC1") ≡ BadStream 4
ends_early = refl

no_file : given (codes "NBC1" ++ 0 ∷ []) ≡ Done (codes "alpha_1000\n")
unfolding digits
no_file = refl
