use Rattle.stab_sampler.proofs.Names.{rules, ◌≡◌, ◌+◌, ℕ, List, [], ◌∷◌, slice_index_or, word_at}
use Rattle.stab_sampler.proofs.PositionLemmas.{four-and-more, none-more, from-zero}
use Rattle.stab_sampler.proofs.streams.next_block.Goals as goal

pub returns-clause-each : goal.returns-clause-each
returns-clause-each c =
    let start = c.args.words.now in
    let words : List ℕ =
    c.next_word.result ∷ c.next_word-2.result ∷ c.next_word-3.result ∷ c.next_word-4.result
    ∷ c.next_word-5.result ∷ c.next_word-6.result ∷ c.next_word-7.result ∷ c.next_word-8.result
    ∷ c.next_word-9.result ∷ c.next_word-10.result ∷ c.next_word-11.result ∷ c.next_word-12.result
    ∷ c.next_word-13.result ∷ c.next_word-14.result ∷ c.next_word-15.result ∷ c.next_word-16.result ∷ []
    in
    let P : ℕ → Type 0 = λ k. slice_index_or words k 0 ≡ word_at 4 start.key start.stream (start.word_pos + k) in
    from-zero P 16
    (four-and-more P 0 12 (search rules) (search rules) (search rules) (search rules)
    (four-and-more P 4 8 (search rules) (search rules) (search rules) (search rules)
    (four-and-more P 8 4 (search rules) (search rules) (search rules) (search rules)
    (four-and-more P 12 0 (search rules) (search rules) (search rules) (search rules) (none-more P 16)))))
