-- Requests: what contracts see of the code's own forms of requests and of what is gathered.
-- Source: this project's own.
use Rattle.std.specs.Prelude.{List, ℕ, [], ◌∷◌, Option, Some, None}
use Rattle.stab_script.specs.Scripts.{Request, begin, put, delete, show, ask, deterministic, distance, refuse, Gathering}
use Rattle.stab_script.specs.CountedRequests.{CountedRequest, bookmark, split, numbers, changed, changed_records, sign, item, counts, coin_table, why, way}
use Rattle.stab_script.specs.declared.counted.CountedRequest.{CountedRequest as CountedAsked}
use Rattle.stab_script.specs.declared.counted.CountedRequest.TheVariants as counted_asks
use Rattle.stab_script.specs.declared.request.Request.{Request as Asked}
use Rattle.stab_script.specs.declared.request.Request.TheVariants as asks

-- what the code's request of a counted script asks for
abbrev pub counted_asked : CountedAsked → CountedRequest
counted_asked counted_asks.Bookmark = bookmark
counted_asked (counted_asks.Split place round) = split place round
counted_asked counted_asks.Numbers = numbers
counted_asked counted_asks.Changed = changed
counted_asked counted_asks.ChangedRecords = changed_records
counted_asked (counted_asks.Sign word) = sign word.items
counted_asked (counted_asks.Item path) = item path
counted_asked (counted_asks.Counts path) = counts path
counted_asked counted_asks.Coins = coin_table
counted_asked (counted_asks.Why bit) = why bit
counted_asked (counted_asks.Way at string) = way at.items string.items

-- the same, if there is one
abbrev pub counted_if_any : Option CountedAsked → Option CountedRequest
counted_if_any None = None
counted_if_any (Some request) = Some (counted_asked request)

-- what the code's request asks for
abbrev pub request_asked : Asked → Request
request_asked asks.Begin = begin
request_asked (asks.Put edit place text) = put edit place text.items
request_asked (asks.Delete place) = delete place
request_asked (asks.Show what) = show what
request_asked (asks.Counted request) = ask (counted_asked request)
request_asked asks.Deterministic = deterministic
request_asked (asks.Distance everywhere most) = distance everywhere most
request_asked (asks.Refuse r) = refuse r

-- the request, if there is one
abbrev pub asked_if_any : Option Asked → List Request
asked_if_any None = []
asked_if_any (Some request) = request_asked request ∷ []

-- how many blocks are open in what is gathered
abbrev pub opened_in : Option Gathering → ℕ
opened_in None = 0
opened_in (Some g) = g.opened
