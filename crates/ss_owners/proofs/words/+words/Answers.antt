use Rattle.std.proofs.lemmas.Result.{on_ok_weaker}
use Rattle.ss_owners.specs.Parts.{allowed_of}
use Rattle.ss_owners.proofs.Added.{chain_found, path_found, quantified_found}
use Rattle.ss_owners.proofs.words.+words.Goals as goal

pub find_words-returns-in_ok-find_words-in-Chain : goal.find_words-returns-in_ok-find_words-in-Chain
find_words-returns-in_ok-find_words-in-Chain t c =
    let a = c.in-Chain in
    on_ok_weaker _ (chain_found (allowed_of c.args.allowed) a.field-0 a.first a.links c.args.e.now c.deref-in-Chain-2.result.now c.deref-in-Chain.result.now
    c.args.found.now.items c.find_words-in-Chain.new.found.items c.find_in_links.new.found.items
    a.is c.deref-in-Chain.ensures c.deref-in-Chain-2.ensures.value c.in_ok-find_words-in-Chain.ensures) c.find_in_links.ensures

pub find_words-returns-in_ok-find_words-in-Path : goal.find_words-returns-in_ok-find_words-in-Path
find_words-returns-in_ok-find_words-in-Path t c =
    let a = c.in-Path in
    on_ok_weaker _ (path_found (allowed_of c.args.allowed) a.field-0 a.first a.steps c.args.e.now c.deref-in-Path-2.result.now c.deref-in-Path.result.now
    c.args.found.now.items c.find_words-in-Path.new.found.items c.find_in_steps.new.found.items
    a.is c.deref-in-Path.ensures c.deref-in-Path-2.ensures.value c.in_ok-find_words-in-Path.ensures) c.find_in_steps.ensures

pub find_words-returns-in_ok-find_words-in-Quantified-2 : goal.find_words-returns-in_ok-find_words-in-Quantified-2
find_words-returns-in_ok-find_words-in-Quantified-2 t c =
    let a = c.in-Quantified in
    on_ok_weaker _ (quantified_found (allowed_of c.args.allowed) a.field-0 a.field-1 a.field-2 a.low a.high a.member c.args.e.now
    c.deref-in-Quantified.result.now c.deref-in-Quantified-2.result.now c.deref-in-Quantified-3.result.now
    c.args.found.now.items c.find_words-in-Quantified.new.found.items c.find_words-in-Quantified-2.new.found.items c.find_words-in-Quantified-3.new.found.items
    a.is c.deref-in-Quantified.ensures c.deref-in-Quantified-2.ensures c.deref-in-Quantified-3.ensures
    c.in_ok-find_words-in-Quantified.ensures c.in_ok-find_words-in-Quantified-2.ensures) c.find_words-in-Quantified-3.ensures
