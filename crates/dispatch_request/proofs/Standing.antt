-- What stands at a position: how it is told, and what is known of it. Assumes nothing.
use Prim.Native.Nat.{ℕ, ◌+◌, ◌-◌, ◌≤◌, ◌<◌}
use mathlib.Core.Path.{◌≡◌, refl, sym, ap, subst, ◌∙◌}
use mathlib.Core.Bool.{Bool, true, ◌&&◌}
use mathlib.Core.List.{List}
use native.Mathlib.Omega.{arith}
use lib.Dec.{eqb, leb, ltb}
use lib.ListN.{length, take, drop, length-take, length-drop}
use lib.Seq.{length-take-le}
use borrow.Author.Tests.{eq-eqb, ne_eqb, eqb-false, le-leb, lt-leb, leb-true}
use Rattle.std.specs.Prelude.{None, Some, Ok, Err}
use Rattle.codec.specs.Bytes.{big, field, part}
use Rattle.codec.specs.Choice.{pick}
use Rattle.codec.specs.Lists.{All}
use Rattle.codec.proofs.Choices.{both, passed}
use Rattle.codec.proofs.Parts.{part_drop}
use Rattle.units.specs.declared.Answer.{Answer}
use Rattle.units.specs.declared.Answer.TheVariants.{Done}
use Rattle.units.specs.declared.LogPosition.{LogPosition}
use Rattle.units.specs.declared.QueueOffset.{QueueOffset}
use Rattle.properties.specs.declared.Found.{Found as Value}
use Rattle.properties.specs.declared.Text.{Text}
use Rattle.properties.specs.Finder.{tags_name, finder}
use Rattle.directory.specs.Directory.{queues as listed_queues, row_of}
use Rattle.record.specs.declared.Fields.{Fields}
use Rattle.record.specs.declared.Lengths.{Lengths}
use Rattle.record.specs.declared.Record.{Record}
use Rattle.record.specs.declared.Entry.TheVariants.{Blank, Message}
use Rattle.record.specs.Record.{LogEntry, short_hosts, store_time_at, total_of, fields_of, message_of, lengths_in, record_in, host_bits_clear, fields_sound, topic_in, properties_in, entry_at}
use Rattle.record.specs.Reading.{Holds}
use Rattle.record.specs.Judging.{JudgedEntry, sound_entry, judged_at}
use Rattle.record.proofs.Prefixes.{part_take}
use Rattle.record.proofs.Judgements.{judged_stop, judged_blank, judged_sound}
use Rattle.record.proofs.Soundness.{blank_padded, message_framed, message_sound}
use Rattle.commit_log.specs.declared.Geometry.{Geometry}
use Rattle.commit_log.specs.Log.{Rest, seen, entry_within, place_bytes}
use Rattle.commit_log.specs.Door.{Within}
use Rattle.commit_log.proofs.ReadAndAppend.{entry_seen}
use Rattle.dispatch_request.specs.declared.DispatchRequest.{DispatchRequest}
use Rattle.dispatch_request.specs.Request.{transaction, makes_entry, makes_items, row_number, tag_of, record_hashes, type_of, hashes_of, request_of, View, stop, blank, request, made_of, stands_as, stands_at}
use Rattle.dispatch_request.specs.Reading.{Next, next_of, InFront, Reads}
use Rattle.dispatch_request.specs.Inner.{Gathered, topic_of, properties_of}
use Rattle.dispatch_request.specs.Claims.{StandsSmall, HashesFew, ItemsCounted, RequestFound, RequestListed, BlankFound}
use Rattle.dispatch_request.proofs.Duties.{number_small, number_listed}
use Rattle.dispatch_request.proofs.Keys.{record_small, record_few}

-- ---- a record's request

module _ (directory : List ℕ) (m : Record) (topic properties l : List ℕ) {makes : Bool} {items : ℕ} {list : List ℕ}
    (e : makes ≡ makes_items (type_of m)) (gathered : Gathered (record_hashes makes topic properties) 0 l items list) where
  own : Gathered (hashes_of m topic properties) 0 l items list
  own = rw e at gathered

  pub request_long : length list < items → Reads (made_of directory m topic properties) (Ok (Message None)) list
  unfolding made_of next_of InFront pick
  request_long h =
      let n = own.long in
      let k : length list < length (hashes_of m topic properties) = let a = own.more (omega arith) in omega arith in
      record { next = rw (lt-leb _ _ k); listed = λ i. absurd (omega arith) }

  module _ (fits : items ≤ length list) where
    counted : items ≡ length (hashes_of m topic properties)
    counted = let n = own.long in let a = (own.all (omega arith)).0 in omega arith

    listed : take (length (hashes_of m topic properties)) list ≡ hashes_of m topic properties
    listed = let n = own.long in rw (← counted) (own.all (omega arith)).1

    pub request_read : {total time : ℕ} {entry : Bool} {row tag : ℕ} {offset : QueueOffset} {tags : Value} → total ≡ m.total → entry ≡ makes_entry (type_of m)
        → row ≡ row_number (row_of topic m.fields.queue_id directory) → offset ≡ m.fields.queue_offset
        → tags ≡ finder tags_name properties → tag ≡ tag_of tags properties → time ≡ m.fields.store_time
        → Reads (made_of directory m topic properties)
        (Ok (Message (Some (record { total = total; entry = entry; row = row; queue_offset = offset; tag_code = tag; store_time = time; items = items })))) list
    unfolding made_of request_of next_of InFront pick
    request_read {tag} a b c d f t g =
        let k : tag ≡ tag_of (finder tags_name properties) properties = rw f at t in
        let n = counted in
        record {
          next = (λ i. Ok (Message (Some (record { total = a i; entry = b i; row = c i; queue_offset = d i; tag_code = k i; store_time = g i; items = n i }))))
              ∙ rw (le-leb (length (hashes_of m topic properties)) (length list) (omega arith));
          listed = λ i. listed;
        }

module _ (own : List ℕ) {k : Lengths} (lengths : k ≡ lengths_in short_hosts own) where
  -- the bytes that the lengths name are there
  pub lengths_held : Holds own (lengths_in short_hosts own) → Holds own k
  lengths_held h = rw lengths h

  pub topic_lent : {topic : List ℕ} → topic ≡ topic_in k own → topic ≡ topic_of own
  topic_lent e = e ∙ ap (λ (x : Lengths). topic_in x own) lengths

  pub properties_lent : {properties : List ℕ} → properties ≡ properties_in k own → properties ≡ properties_of own
  properties_lent e = e ∙ ap (λ (x : Lengths). properties_in x own) lengths

-- of its own bytes, as they were read
module _ (directory : List ℕ) (p : LogPosition) (own l : List ℕ) {topic properties : List ℕ} {flag : ℕ} {makes : Bool} {items : ℕ} {list : List ℕ}
    (t : topic ≡ topic_of own) (q : properties ≡ properties_of own) (system : flag ≡ field big 4 36 own)
    (e : makes ≡ makes_items (transaction flag)) (gathered : Gathered (record_hashes makes topic properties) 0 l items list) where
  own_makes : makes ≡ makes_items (type_of (record_in short_hosts p own))
  unfolding message_of fields_of
  own_makes = e ∙ rw system

  own_gathered : Gathered (record_hashes makes (topic_of own) (properties_of own)) 0 l items list
  own_gathered = rw (t, q) at gathered

  pub own_long : length list < items → Reads (made_of directory (record_in short_hosts p own) (topic_of own) (properties_of own)) (Ok (Message None)) list
  own_long h = request_long directory (record_in short_hosts p own) (topic_of own) (properties_of own) l own_makes own_gathered h

  pub own_read : {k : Lengths} {id offset time row tag : ℕ} {entry : Bool} {tags : Value} → items ≤ length list → total_of (lengths_in short_hosts own) ≡ length own → k ≡ lengths_in short_hosts own
      → id ≡ field big 4 12 own → offset ≡ field big 8 20 own → time ≡ field big 8 (store_time_at k.hosts) own
      → entry ≡ makes_entry (transaction flag) → row ≡ row_number (row_of topic id directory) → tags ≡ finder tags_name properties → tag ≡ tag_of tags properties
      → Reads (made_of directory (record_in short_hosts p own) (topic_of own) (properties_of own))
      (Ok (Message (Some (record { total = length own; entry = entry; row = row; queue_offset = record { 0 = offset }; tag_code = tag; store_time = time; items = items })))) list
  unfolding message_of fields_of
  own_read {k} {id} {offset} {time} fits size lengths i o s en r f g =
      let s' : time ≡ field big 8 (store_time_at short_hosts) own = rw lengths at s in
      let f' = rw q at f in
      let g' = rw q at g in
      request_read directory (record_in short_hosts p own) (topic_of own) (properties_of own) l own_makes own_gathered fits
      (sym size) (en ∙ rw system) (r ∙ rw (t, i)) (λ j. record { 0 = o j }) f' g' s'

-- ---- a record's own bytes in the log

-- what is seen ends at the readable end
pub seen_most : (log : List ℕ) (g : Geometry) (p e : LogPosition) → length (seen log g p e) ≤ e.0 - p.0
unfolding seen part
seen_most log g p e = rw (length-take (e.0 - p.0) (drop (p.0 - g.first_position.0) log)) (omega arith)

module _ (log : List ℕ) (g : Geometry) (p e : LogPosition) (range : Within g (length log) p e) (n : ℕ) (below : n ≤ length (seen log g p e)) where
  -- a part of them is a part of the log
  pub own_part : (k i : ℕ) → i + k ≤ n → part k (p.0 - g.first_position.0 + i) log ≡ part k i (take n (seen log g p e))
  unfolding seen part
  own_part k i h =
      let a = p.0 - g.first_position.0 in
      let most = seen_most log g p e in
      let within : e.0 - p.0 ≤ length (drop a log) = rw length-drop (omega (arith, range.from, range.to, range.end)) in
      sym (part_drop k a i log)
      ∙ sym (part_take (e.0 - p.0) (drop a log) within k i (omega arith))
      ∙ sym (part_take n (seen log g p e) below k i h)

  module _ (held : Holds (take n (seen log g p e)) (lengths_in short_hosts (take n (seen log g p e)))) where
    own_length : total_of (lengths_in short_hosts (take n (seen log g p e))) ≤ n
    own_length = omega (arith, held.within, length-take-le n (seen log g p e) below)

    -- topic and properties of a record in the log are those of its own bytes
    pub own_topic : place_bytes log g p (record_in short_hosts p (take n (seen log g p e))).topic ≡ topic_of (take n (seen log g p e))
    unfolding message_of
    own_topic = own_part _ _ (omega (arith, own_length))

    pub own_properties : place_bytes log g p (record_in short_hosts p (take n (seen log g p e))).properties ≡ properties_of (take n (seen log g p e))
    unfolding message_of
    own_properties = own_part _ _ (omega (arith, own_length))

module _ (directory : List ℕ) (g : Geometry) (v : View) (p : LogPosition) (range : Within g (length v.log) p v.end) (n : ℕ) where
  message_made : n ≤ length (seen v.log g p v.end)
      → (let own = take n (seen v.log g p v.end) in
      Holds own (lengths_in short_hosts own)
      → stands_as directory g v p (Ok (Message (record_in short_hosts p own))) ≡ made_of directory (record_in short_hosts p own) (topic_of own) (properties_of own))
  unfolding stands_as
  message_made below held =
      λ i. made_of directory (record_in short_hosts p (take n (seen v.log g p v.end))) (own_topic v.log g p v.end range n below held i)
      (own_properties v.log g p v.end range n below held i)

-- ---- the ways through reading

module _ (directory : List ℕ) (g : Geometry) (v : View) (p : LogPosition) (list : List ℕ) where
  pub read_end : p.0 ≡ v.end.0 → Reads (stands_at directory g v p) (Err Done) list
  unfolding stands_at next_of InFront pick
  read_end e = rw (eq-eqb p.0 v.end.0 e) (record { next = refl; listed = tt })

  module _ {y : LogEntry} (is : y ≡ entry_within v.log g p v.end) (before : p.0 ≡ v.end.0 → ⊥) where
    pub stands_as_is : stands_at directory g v p ≡ stands_as directory g v p y
    unfolding stands_at pick
    stands_as_is = rw (ne_eqb p.0 v.end.0 before, is)

-- the rest and the bytes that the code found before the readable end, and how they were judged
pub record Seen (g : Geometry) (v : View) (p : LogPosition) (r : ℕ) (s : List ℕ) (j : JudgedEntry) : Type 0 where
  pub before : p.0 ≡ v.end.0 → ⊥
  pub rest : Rest g p r
  pub bytes : s ≡ seen v.log g p v.end
  pub judged : j ≡ judged_at p r s

module _ (directory : List ℕ) (g : Geometry) (v : View) (p : LogPosition) (list : List ℕ) {r : ℕ} {s : List ℕ} {j : JudgedEntry} (x : Seen g v p r s j) where
  stands : {y : LogEntry} → y ≡ entry_at p r s → stands_at directory g v p ≡ stands_as directory g v p y
  stands f = stands_as_is directory g v p list (f ∙ entry_seen v.log g p v.end r s x.rest.is x.bytes) x.before

  pub read_refused : {a : Answer} → j ≡ Err a → Reads (stands_at directory g v p) (Err a) list
  unfolding stands_as next_of InFront
  read_refused {a} f = rw (stands (judged_stop p r s x.judged f)) (record { next = refl; listed = tt })

  pub read_padded : {n : ℕ} → j ≡ Ok (Blank n) → Reads (stands_at directory g v p) (Ok (Blank n)) list
  unfolding stands_as next_of InFront
  read_padded {n} f = rw (stands (judged_blank p r s x.judged f)) (record { next = refl; listed = tt })

  module _ {n : ℕ} {t : Text} (f : j ≡ sound_entry n t) where
    stands_made : Within g (length v.log) p v.end
        → stands_at directory g v p ≡ made_of directory (record_in short_hosts p (take n s)) (topic_of (take n s)) (properties_of (take n s))
    stands_made range =
        let bytes = x.bytes in
        let w = judged_sound p r s x.judged f in
        let below = w.below in
        let held = w.holds in
        let below' = rw bytes at below in
        let held' = rw bytes at held in
        stands w.is ∙ rw bytes (message_made directory g v p range n below' held')

    pub read_record_is : {y : Next} → Within g (length v.log) p v.end
        → Reads (made_of directory (record_in short_hosts p (take n s)) (topic_of (take n s)) (properties_of (take n s))) y list
        → Reads (stands_at directory g v p) y list
    read_record_is range m = rw (stands_made range) m

-- ---- what is known of a record that stands at p

stop_request : {a : Answer} {q : DispatchRequest} {hs : List ℕ} → stop a ≡ request q hs → ⊥
stop_request e = let z : ◌≡◌ {A = ℕ} 0 1 = cc in omega arith

blank_request : {n : ℕ} {q : DispatchRequest} {hs : List ℕ} → blank n ≡ request q hs → ⊥
blank_request e = let z : ◌≡◌ {A = ℕ} 0 1 = cc in omega arith

stop_blank : {a : Answer} {n : ℕ} → stop a ≡ blank n → ⊥
stop_blank e = let z : ◌≡◌ {A = ℕ} 0 1 = cc in omega arith

-- the record that a request was made of
pub record Made (directory : List ℕ) (g : Geometry) (v : View) (p : LogPosition) (q : DispatchRequest) (hs : List ℕ) : Type 0 where
  pub message : Record
  pub before : p.0 ≡ v.end.0 → ⊥
  pub is : entry_within v.log g p v.end ≡ Ok (Message message)
  pub request_is : request_of directory message (place_bytes v.log g p message.topic) (place_bytes v.log g p message.properties) ≡ q
  pub hashes_are : hashes_of message (place_bytes v.log g p message.topic) (place_bytes v.log g p message.properties) ≡ hs

pub read : (directory : List ℕ) (g : Geometry) (v : View) (p : LogPosition) (q : DispatchRequest) (hs : List ℕ) → stands_at directory g v p ≡ request q hs → Made directory g v p q hs
unfolding stands_at stands_as made_of
read directory g v p q hs e =
    let h = passed (eqb p.0 v.end.0) (stop Done) (stands_as directory g v p (entry_within v.log g p v.end)) (request q hs) stop_request e in
    go (entry_within v.log g p v.end) refl (eqb-false p.0 v.end.0 h.fails) h.rest
  where
    go : (y : LogEntry) → entry_within v.log g p v.end ≡ y → (p.0 ≡ v.end.0 → ⊥) → stands_as directory g v p y ≡ request q hs → Made directory g v p q hs
    go (Err a) is b h = absurd (stop_request h)
    go (Ok (Blank n)) is b h = absurd (blank_request h)
    go (Ok (Message m)) is b h = record { message = m; before = b; is = is; request_is = cc; hashes_are = cc }

pub stands_small : StandsSmall
stands_small directory g v p q hs e =
    let r = read directory g v p q hs e in
    subst (All (λ (h : ℕ). h < 2147483648)) r.hashes_are (record_small _ _ _)

properties_short : (g : Geometry) (v : View) (p : LogPosition) (m : Record) → entry_within v.log g p v.end ≡ Ok (Message m) → length (place_bytes v.log g p m.properties) ≤ 32767
unfolding entry_within message_of part
properties_short g v p m e =
    let w = message_sound _ _ _ m e in
    let s = w.0.lengths.short in
    let is = ap (λ (x : Record). x.properties.len) w.1 in
    rw (length-take m.properties.len (drop (p.0 - g.first_position.0 + m.properties.at) v.log)) (omega arith)

pub hashes_few : HashesFew
hashes_few directory g v p q hs e =
    let r = read directory g v p q hs e in
    let m = r.message in
    let n = ap length r.hashes_are in
    omega (arith, properties_short g v p m r.is, record_few (makes_items (type_of m)) (place_bytes v.log g p m.topic) (place_bytes v.log g p m.properties))

pub items_counted : ItemsCounted
unfolding request_of
items_counted directory g v p q hs e =
    let r = read directory g v p q hs e in
    sym (ap (λ (x : DispatchRequest). x.items) r.request_is) ∙ ap length r.hashes_are

time_sound : (f : Fields) → fields_sound f ≡ true → f.store_time ≤ 281474976710655
unfolding fields_sound
time_sound f e =
    let t = leb f.store_time 281474976710655 in
    let i = ltb f.queue_id 0x80000000 in
    leb-true f.store_time 281474976710655 (both t i (both (t && i) (host_bits_clear f.system_flag) e).0).0

pub request_found : RequestFound
unfolding request_of entry_within message_of
request_found directory g v p q hs e =
    let r = read directory g v p q hs e in
    let m = r.message in
    let k = message_framed _ _ _ m r.is in
    let w = message_sound _ _ _ m r.is in
    let fields : m.fields ≡ fields_of short_hosts (take m.total (seen v.log g p v.end)) = ap (λ (x : Record). x.fields) w.1 in
    let t : m.total ≡ q.total = ap (λ (x : DispatchRequest). x.total) r.request_is in
    let s : m.fields.store_time ≡ q.store_time = ap (λ (x : DispatchRequest). x.store_time) r.request_is in
    record {
      before = r.before;
      least = rw t at k.least;
      most = rw t at k.most;
      below = omega (arith, k.least, k.below, seen_most v.log g p v.end);
      time = rw s at (time_sound m.fields (rw fields w.0.numbers));
    }

pub request_listed : RequestListed
unfolding request_of
request_listed directory g v p q hs l e =
    let r = read directory g v p q hs e in
    let m = r.message in
    let row = ap (λ (x : DispatchRequest). x.row) r.request_is in
    (rw row at (number_small (place_bytes v.log g p m.topic) m.fields.queue_id directory l), subst (λ (n : ℕ). n < 16 → n < length (listed_queues directory)) row (number_listed _ _ directory))

pub blank_found : BlankFound
unfolding stands_at stands_as made_of entry_within
blank_found directory g v p n e =
    go (entry_within v.log g p v.end) refl
    (passed (eqb p.0 v.end.0) (stop Done) (stands_as directory g v p (entry_within v.log g p v.end)) (blank n) stop_blank e).rest
  where
    go : (y : LogEntry) → entry_within v.log g p v.end ≡ y → stands_as directory g v p y ≡ blank n → (8 ≤ n) × (p.0 + n ≤ v.end.0)
    go (Err a) is h = absurd (stop_blank h)
    go (Ok (Blank k)) is h =
        let same : k ≡ n = cc in
        let b = blank_padded _ _ _ k is in
        let c = seen_most v.log g p v.end in
        let d = b.1.below in
        (omega arith, omega arith)
    go (Ok (Message m)) is h = absurd (blank_request (sym h))
