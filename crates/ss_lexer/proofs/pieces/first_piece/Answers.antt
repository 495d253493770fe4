use Rattle.ss_lexer.proofs.Longest.{front_at}
use Rattle.ss_lexer.proofs.pieces.first_piece.Goals as goal

pub returns-clause-first : goal.returns-clause-first
returns-clause-first c = (front_at c.args.source.now c.piece_from.result c.requires c.piece_from.ensures).first

pub returns-clause-within : goal.returns-clause-within
returns-clause-within c = (front_at c.args.source.now c.piece_from.result c.requires c.piece_from.ensures).within

pub returns-clause-some : goal.returns-clause-some
returns-clause-some c = (front_at c.args.source.now c.piece_from.result c.requires c.piece_from.ensures).some
